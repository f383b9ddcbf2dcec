-- What a source writes to the output: bytes that its meaning gives, or what a code file or a listing says of some code that stands for it.
use Rattle.std.specs.Prelude.{◌≡◌, ◌⊎◌, ℕ, List, [], Option}
use Rattle.std.specs.Io.KnownBytes.{Appends}
use Rattle.code_file.specs.Listing.{listing_of}
use Rattle.code_file.specs.Spelling.{IsCode, spelling}
use Rattle.codegen.specs.Compiled.{Compiled as StandsFor}
use Rattle.sim_code.specs.Code.{CodeOf}
use Rattle.sim_code.specs.Running.{AllRun}
use Rattle.sim_ports.specs.Bytes.{AddsPrefix}
use Rattle.sim_scope.specs.Source.{Source}

-- The code stands for the program, and the machine does each of its instructions.
pub record IsCodeFor (s : Source) (code : CodeOf) : Type 0 where
  pub stands : StandsFor s code
  pub runs : AllRun code.instrs

-- the one spelling of some code for the program, which a code file can say
pub record IsCodeFile (s : Source) (bytes : List ℕ) : Type 0 where
  pub code : CodeOf
  pub is_code_for : IsCodeFor s code
  pub is_code : IsCode code
  pub spelt : bytes ≡ spelling code

-- the listing of some code for the program
pub record IsListing (s : Source) (bytes : List ℕ) : Type 0 where
  pub code : CodeOf
  pub is_code_for : IsCodeFor s code
  pub listed : bytes ≡ listing_of code

pub data Output : Type 0 where
  Exactly : List ℕ → Output
  SomeCodeFile : Source → Output
  SomeListing : Source → Output

-- the bytes are the whole output
abbrev pub Holds : Output → List ℕ → Type 0
Holds (Exactly all) bytes = bytes ≡ all
Holds (SomeCodeFile s) bytes = IsCodeFile s bytes
Holds (SomeListing s) bytes = IsListing s bytes

-- the known bytes grow by the whole output
abbrev pub Writes : (old new : Option (List ℕ)) → Output → Type 0
Writes old new output = (bytes : List ℕ) × Holds output bytes × Appends old new bytes

-- they grow by nothing, or by some of the first bytes of the output
abbrev pub Begins : (old new : Option (List ℕ)) → Output → Type 0
Begins old new output = Appends old new [] ⊎ ((bytes : List ℕ) × Holds output bytes × AddsPrefix old new bytes)
