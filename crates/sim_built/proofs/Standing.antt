-- What a text sees stands around it.
use Rattle.std.proofs.Common.{◌≡◌, ℕ, false, Some}
use Rattle.sim_base.specs.declared.numbering.DeclNo.{DeclNo}
use Rattle.sim_scope.specs.Access.{encloser}
use Rattle.sim_scope.specs.Source.{Source, block_of}
use Rattle.sim_meaning.specs.Attributes.{is_connection}
use Rattle.sim_meaning.specs.Texts.{Text, text}
use Rattle.sim_sound.specs.Held.{Connected, ConnectedInBound, In, InBound, Seen, SeenInBound, from_around, further, itself, own_fixed}
use Rattle.sim_sound.specs.Typed.{Typed}
use Rattle.codegen_expr.specs.Built.{ConnectedBuilt, StandsIn}
use Rattle.sim_built.specs.Laid.{Laid}
use Rattle.sim_built.proofs.Cells.{class_is_solid, connection_has, level_solid, stands, stands_level}
use Rattle.sim_built.proofs.Expressions.{Stands, class_never}

module _ (s : Source) (ok : Typed s) (laid : Laid s) (t : ℕ) (x : Text) (there : text s t ≡ Some x) where
  pub seen_here : (v : ℕ) → Seen s t v → StandsIn s t v
  seen_here v a = stands_level s ok laid t a.found v x there a.around a.instance a.level

  seen_solid : (u v : ℕ) → Seen s u v → is_connection (text s v) ≡ false
  seen_solid u v a = level_solid s ok laid a.found v a.instance a.level

  connected_here : (k v : ℕ) → Connected s t k v → ConnectedBuilt s t k
  connected_here k v a = record { has = connection_has s ok laid k a.is; inside = stands s ok laid t k x there a.around }

  connected_solid : (u k v : ℕ) → Connected s u k v → is_connection (text s v) ≡ false
  connected_solid u k v a = level_solid s ok laid a.class v (class_is_solid (text s a.class) a.is_class) a.level

  -- what is seen from the text around is seen from the text
  seen_further : (u v : ℕ) → encloser s.tables t ≡ Some u → Seen s u v → Seen s t v
  seen_further u v e a = record { found = a.found; around = further e a.around; instance = a.instance; level = a.level }

  connected_further : (k v : ℕ) → ConnectedInBound s t k v → Connected s t k v
  connected_further k v a = record {
    around = further a.stands_in (a.seen).around;
    is = (a.seen).is;
    class = (a.seen).class;
    connects = (a.seen).connects;
    is_class = (a.seen).is_class;
    level = (a.seen).level;
  }

  pub stands_here : Stands s t (In t)
  stands_here = record {
    seen = λ d a. seen_here (block_of s d) a;
    solid = λ d a. seen_solid t (block_of s d) a;
    connected = λ k d a. connected_here k (block_of s d) a;
    behind = λ k d a. connected_solid t k (block_of s d) a;
    around = λ k a. stands s ok laid t k x there a;
    never = λ k d a. class_never s ok d a.class a.is_class a.level;
  }

  pub stands_in_bound : is_connection (text s t) ≡ false → Stands s t (InBound t)
  stands_in_bound whole = record {
    seen = λ d a. seen d a;
    solid = λ d a. solid d a;
    connected = λ k d a. connected_here k (block_of s d) (connected_further k (block_of s d) a);
    behind = λ k d a. connected_solid t k (block_of s d) (connected_further k (block_of s d) a);
    around = λ k a. stands s ok laid t k x there (further a.stands_in a.around);
    never = λ k d a. class_never s ok d (a.seen).class (a.seen).is_class (a.seen).level;
  }
    where
      seen : (d : DeclNo) → SeenInBound s t d → StandsIn s t (block_of s d)
      seen d (own_fixed f l) = stands_level s ok laid t t (block_of s d) x there itself whole l
      seen d (from_around {u = u} e a) = seen_here (block_of s d) (seen_further u (block_of s d) e a)

      solid : (d : DeclNo) → SeenInBound s t d → is_connection (text s (block_of s d)) ≡ false
      solid d (own_fixed f l) = level_solid s ok laid t (block_of s d) whole l
      solid d (from_around {u = u} e a) = seen_solid u (block_of s d) a
