-- Where no class has a prefix, each text that is no connection is its only level.
use Rattle.std.proofs.Common.{◌≡◌, ◌<◌, ℕ, zero, suc, true, false, length, None, refl, arith}
use Rattle.sim_scope.specs.Levels.{base, has_level}
use Rattle.sim_scope.specs.Source.{Source}
use Rattle.sim_meaning.specs.Attributes.{is_connection}
use Rattle.sim_meaning.specs.Texts.{text}
use Rattle.sim_sound.specs.Typed.{Ends, Prefixes, outermost}
use Rattle.sim_sound.proofs.Lists.{no_some}
use Rattle.sim_sound.proofs.Prefixes.{LevelOf, level_is, prefix_level, same_level}

some_fuel : (s : Source) (n k : ℕ) → 0 < n → base s.tables k ≡ None → Ends s.tables n k
some_fuel s zero k lt none = absurd (omega (arith, lt))
some_fuel s (suc n) k lt none = outermost none

level_alone : (s : Source) → ((k : ℕ) → is_connection (text s k) ≡ false → base s.tables k ≡ None) → {t c : ℕ} → is_connection (text s t) ≡ false → LevelOf s t c → t ≡ c
level_alone s alone solid same_level = refl
level_alone s alone {t = t} solid (prefix_level {b = b} f x) = absurd (no_some (base s.tables t) b (alone t solid) f)

pub one_level : (s : Source) → ((k : ℕ) → is_connection (text s k) ≡ false → base s.tables k ≡ None) → (t c : ℕ) → is_connection (text s t) ≡ false → has_level s.tables t c ≡ true → t ≡ c
one_level s alone t c solid e = level_alone s alone solid (level_is s t c e)

pub unprefixed : (s : Source) → 0 < length s.tables.blocks → ((k : ℕ) → is_connection (text s k) ≡ false → base s.tables k ≡ None) → Prefixes s
unprefixed s some alone = record {
  prefixed_by = λ k b solid e. absurd (no_some (base s.tables k) b (alone k solid) e);
  ends = λ k solid. some_fuel s (length s.tables.blocks) k some (alone k solid);
  apart = λ k b u d solid e level a f. no_some (base s.tables k) b (alone k solid) e;
}
