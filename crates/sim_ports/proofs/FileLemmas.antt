-- Files in memory: their copies, the look-up of a name, and a read of the open one.
use Rattle.std.proofs.Common.{◌≡◌, ℕ, ◌+◌, ◌-◌, ◌<◌, min, List, [], ◌∷◌, ◌++◌, Option, Bool, Some, None, Vec, true, false, map, get_or, length, take, drop, refl, ◌∙◌, ap, IfSome}
use Rattle.std.proofs.lemmas.List.{drop_min, map-append, take_more, take_rest}
use Rattle.std.specs.Io.KnownBytes.{Consumes, IsAtEnd}
use Rattle.std.specs.Option.{option_map}
use Rattle.std.specs.Str.{bytes_eq}
use Rattle.std.specs.Prelude.{String, string_bytes, if◌then◌else◌}
use Rattle.std.specs.declared.alloc.Global.{Global}
use Rattle.sim_ports.specs.Memory.{plain, bytes_named, kept_named, left_of}
use Rattle.sim_ports.specs.Named.{IsOpen, selected_of}
use Rattle.sim_ports.proofs.Transfers.{reads_next, reads_none}

-- a list of copies, with the copy of the next element
pub copies_more : {A B : Type 0} (f : A → B) (copies all new : List A) (i : ℕ) (copy it : A) → map f copies ≡ map f (take i all) → i < length all → it ≡ get_or all i it → f copy ≡ f it
    → new ≡ copies ++ copy ∷ [] → map f new ≡ map f (take (i + 1) all)
copies_more f copies all new i copy it so_far within is same grown =
    let front : map f new ≡ map f copies ++ f copy ∷ [] = ap (map f) grown ∙ map-append f copies (copy ∷ []) in
    let back : map f (take (i + 1) all) ≡ map f (take i all) ++ f (get_or all i it) ∷ [] = ap (map f) (take_more all i it within) ∙ map-append f (take i all) (get_or all i it ∷ []) in
    rw (front, back, so_far, same, ← is) refl

pick : (found : Bool) (file : String Global × Vec ℕ Global) (ours : Option (String Global × Vec ℕ Global)) (theirs : Option (List ℕ × List ℕ))
    → option_map (λ file. file.1) theirs ≡ option_map (λ file. file.1.items) ours
    → option_map (λ file. file.1) (if found then Some (plain file) else theirs) ≡ option_map (λ file. file.1.items) (if found then Some file else ours)
pick true file ours theirs others = refl
pick false file ours theirs others = others

-- the look-up of a name in files as they are kept
pub bytes_named_plain : (files : List (String Global × Vec ℕ Global)) (name : List ℕ) → bytes_named (map plain files) name ≡ kept_named files name
unfolding kept_named
bytes_named_plain [] name = refl
bytes_named_plain (file ∷ others) name = pick (bytes_eq (string_bytes file.0) name) file _ _ (bytes_named_plain others name)

-- the bytes behind a place, as a slice of the bytes found
pub rest_of_found : (found : Option (List ℕ)) (bytes : List ℕ) (place at : ℕ) → found ≡ Some bytes → at ≡ min place (length bytes)
    → IfSome (option_map (drop place) found) (λ left. take (length bytes - at) (drop at bytes) ≡ left)
rest_of_found None bytes place at is here = cc
rest_of_found (Some other) bytes place at is here =
    let same : other ≡ bytes = cc in rw (take_rest bytes at, here, same) (drop_min place bytes)

-- what a read of the first n of the bytes left does to them
pub record IsRead (old new : Option (List ℕ)) (into : List ℕ) (n : ℕ) : Type 0 where
  pub consumes : Consumes old new (take n into)
  pub ends : n ≡ 0 → 0 < length into → IsAtEnd new

found_read : (found : Option (List ℕ)) (into rest : List ℕ) (place most n : ℕ) → IfSome (option_map (drop place) found) (λ left. rest ≡ left)
    → n ≡ min (min (length rest) (length into)) most → 0 < most → take n into ≡ take n rest
    → IsRead (option_map (drop place) found) (option_map (drop (place + n)) found) into n
found_read None into rest place most n is counts moves same = record { consumes = tt; ends = λ none room. tt }
found_read (Some bytes) into rest place most n is counts moves same = record {
  consumes = reads_next bytes into place n (rw is at same);
  ends = λ none room. reads_none bytes place (length into) most n (rw is at counts) room moves none;
}

-- a read of the open file
pub open_read : (files : List (List ℕ × List ℕ)) (selected : Option (String Global)) (is_open : Bool) (into rest : List ℕ) (place most n : ℕ)
    → IsOpen (selected_of selected is_open) → IfSome (left_of files selected is_open place) (λ left. rest ≡ left)
    → n ≡ min (min (length rest) (length into)) most → 0 < most → take n into ≡ take n rest
    → IsRead (left_of files selected is_open place) (left_of files selected is_open (place + n)) into n
open_read files None is_open into rest place most n opened is counts moves same = absurd opened
open_read files (Some name) false into rest place most n opened is counts moves same = cc
open_read files (Some name) true into rest place most n opened is counts moves same =
    found_read (bytes_named files (string_bytes name)) into rest place most n is counts moves same
