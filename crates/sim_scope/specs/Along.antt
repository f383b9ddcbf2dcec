-- Walks from block to block.
use Rattle.std.specs.Prelude.{◌≡◌, ◌<◌, ◌^◌, ℕ, zero, suc, Bool, false, ◌||◌, Option, Some, None}
use Rattle.std.specs.Option.{option_or}

abbrev pub at_next : (ℕ → Bool) → Option ℕ → Bool
at_next test None = false
at_next test (Some block) = test block

-- whether one of so many blocks, from one onward, is so
unfoldable pub some_along : (next : ℕ → Option ℕ) → ℕ → (ℕ → Bool) → (block : ℕ) → Bool
some_along next zero test block = false
some_along next (suc more) test block = test block || at_next (λ b. some_along next more test b) (next block)

abbrev pub from_next : {A : Type 0} → (ℕ → Option A) → Option ℕ → Option A
from_next look None = None
from_next look (Some block) = look block

-- what the first of so many blocks, from one onward, gives that gives something
unfoldable pub first_along : {A : Type 0} → (next : ℕ → Option ℕ) → ℕ → (ℕ → Option A) → (block : ℕ) → Option A
first_along next zero look block = None
first_along next (suc more) look block = option_or (look block) (from_next (λ b. first_along next more look b) (next block))

-- the calls of a closure give what a word gives
abbrev pub Gives : {F B : Type 0} → (F → ℕ → B → Type 0) → F → (ℕ → B) → Type 0
Gives post f word = (block : ℕ) (result : _) → block < 2 ^ 32 → post f block result → result ≡ word block
