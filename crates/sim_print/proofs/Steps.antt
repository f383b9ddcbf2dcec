-- Tokens that are laid out, one behind the other.
use Rattle.std.proofs.Common.{◌≡◌, ◌<◌, ◌≤◌, ◌+◌, ℕ, List, [], ◌∷◌, ◌++◌, refl, sym, ap, ◌∙◌, drop, length, subst}
use Rattle.std.proofs.lemmas.List.{drop_more, drop_all}
use Rattle.std.specs.List.{fold}
use Rattle.std.specs.Prelude.{slice_index_or}
use Rattle.sim_base.specs.declared.token.Lexeme.{Lexeme}
use Rattle.sim_base.specs.declared.token.TokenKind.TheVariants as k
use Rattle.sim_print.specs.Laid.{LaidOut, Owes, Prints, laid}
use Rattle.sim_print.specs.Spelling.{each}
use Rattle.sim_print.specs.Tokens.{behind_comma, listed, one}

fold-both : (a : LaidOut) (xs ys : List Lexeme) → fold laid a (xs ++ ys) ≡ fold laid (fold laid a xs) ys
fold-both a [] ys = refl
fold-both a (x ∷ xs) ys = fold-both (laid a x) xs ys

pub both : (a b c : LaidOut) (xs ys : List Lexeme) → Prints a b xs → Prints b c ys → Prints a c (xs ++ ys)
unfolding Prints
both a b c xs ys f g = g ∙ ap (λ z. fold laid z ys) f ∙ sym (fold-both a xs ys)

pub prints_as : (a b : LaidOut) (xs ys : List Lexeme) → xs ≡ ys → Prints a b xs → Prints a b ys
prints_as a b xs ys e h = subst (Prints a b) e h

pub none : (a : LaidOut) → Prints a a []
unfolding Prints
none a = refl

pub three : (a b c d : LaidOut) (xs ys zs : List Lexeme) → Prints a b xs → Prints b c ys → Prints c d zs → Prints a d (xs ++ (ys ++ zs))
three a b c d xs ys zs f g h = both a b d xs (ys ++ zs) f (both b c d ys zs g h)

pub four : (a b c d e : LaidOut) (xs ys zs us : List Lexeme) → Prints a b xs → Prints b c ys → Prints c d zs → Prints d e us → Prints a e (xs ++ (ys ++ (zs ++ us)))
four a b c d e xs ys zs us f g h i = both a b e xs (ys ++ (zs ++ us)) f (three b c d e ys zs us g h i)

pub five : (a b c d e m : LaidOut) (xs ys zs us vs : List Lexeme) → Prints a b xs → Prints b c ys → Prints c d zs → Prints d e us → Prints e m vs → Prints a m (xs ++ (ys ++ (zs ++ (us ++ vs))))
five a b c d e m xs ys zs us vs f g h i j = both a b m xs (ys ++ (zs ++ (us ++ vs))) f (four b c d e m ys zs us vs g h i j)

pub six : (a b c d e m n : LaidOut) (xs ys zs us vs ws : List Lexeme) → Prints a b xs → Prints b c ys → Prints c d zs → Prints d e us → Prints e m vs → Prints m n ws
    → Prints a n (xs ++ (ys ++ (zs ++ (us ++ (vs ++ ws)))))
six a b c d e m n xs ys zs us vs ws f g h i j l = both a b n xs (ys ++ (zs ++ (us ++ (vs ++ ws)))) f (five b c d e m n ys zs us vs ws g h i j l)

-- ---- loops

pub owes_all : {A : Type 0} (f : A → List Lexeme) (a : LaidOut) (xs : List A) → Owes f a (each f xs) xs a 0
unfolding Owes
owes_all f a xs end h = h

pub owes_from : {A : Type 0} (f : A → List Lexeme) (a b : LaidOut) (s t : List Lexeme) (xs : List A) → s ++ each f xs ≡ t → Prints a b s → Owes f a t xs b 0
unfolding Owes
owes_from f a b s t xs e h end rest = prints_as a end (s ++ each f xs) t e (both a b end s (each f xs) h rest)

pub owes_next : {A : Type 0} (f : A → List Lexeme) (a b c : LaidOut) (t : List Lexeme) (xs : List A) (i : ℕ) (x : A) → Owes f a t xs b i → i < length xs → x ≡ slice_index_or xs i x → Prints b c (f x) → Owes f a t xs c (i + 1)
unfolding Owes
owes_next f a b c t xs i x owes le is one end rest =
    let from : drop i xs ≡ x ∷ drop (i + 1) xs = drop_more xs i x le ∙ ap (λ y. y ∷ drop (i + 1) xs) (sym is) in
    owes end (prints_as b end (f x ++ each f (drop (i + 1) xs)) (each f (drop i xs)) (ap (each f) (sym from)) (both b c end (f x) (each f (drop (i + 1) xs)) one rest))

pub owes_end : {A : Type 0} (f : A → List Lexeme) (a b : LaidOut) (t : List Lexeme) (xs : List A) (i : ℕ) → Owes f a t xs b i → length xs ≤ i → Prints a b t
unfolding Owes
owes_end f a b t xs i owes le = owes b (prints_as b b [] (each f (drop i xs)) (ap (each f) (sym (drop_all i xs le))) (none b))

-- behind the first of a list
pub owes_rest : {A : Type 0} (f : A → List Lexeme) (a b : LaidOut) (l xs : List A) (x : A) → l ≡ x ∷ xs → Prints a b (f x) → Owes (behind_comma f) a (listed f l) xs b 0
owes_rest f a b l xs x is h = owes_from (behind_comma f) a b (f x) (listed f l) xs (sym (ap (listed f) is)) h

pub nothing_listed : {A : Type 0} (f : A → List Lexeme) (a : LaidOut) (l : List A) → length l ≡ 0 → Prints a a (listed f l)
nothing_listed f a [] e = none a
nothing_listed f a (x ∷ xs) e = absurd (cc)

-- a comma, and one more
pub owes_comma : {A : Type 0} (f : A → List Lexeme) (a b m c : LaidOut) (t : List Lexeme) (xs : List A) (i : ℕ) (x : A) → Owes (behind_comma f) a t xs b i → i < length xs → x ≡ slice_index_or xs i x
    → Prints b m (one k.Comma) → Prints m c (f x) → Owes (behind_comma f) a t xs c (i + 1)
owes_comma f a b m c t xs i x owes le is comma h = owes_next (behind_comma f) a b c t xs i x owes le is (both b m c (one k.Comma) (f x) comma h)
