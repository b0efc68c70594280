-- One step of each search for what has no old form, as the code goes: k of n are done, and n - k are left. Assumes
-- nothing.
use mathlib.Core.Path.{◌≡◌, refl, sym, subst}
use mathlib.Core.List.{List}
use mathlib.Core.Option.{none}
use Prim.Native.Nat.{ℕ, ◌+◌, ◌-◌, ◌≤◌, ◌<◌}
use native.Mathlib.Nat.{sub-eq-zero_of_le}
use native.Mathlib.Omega.{arith}
use lib.Dec.{leb}
use lib.ListN.{length}
use Rattle.std.proofs.Common.{Option as Maybe, option_map}
use Rattle.covering.specs.Lists.{or_else}
use Rattle.covering.proofs.Tests.{one_more}
use Rattle.reading.specs.Word.{byte}
use Rattle.reading.specs.Header.{old, header_size, relations, rules, atoms, question_at, atom_places, atom_size}
use Rattle.reading.specs.Header.{answer_records}
use Rattle.reading.specs.Book.{body_count, head_count, body_at, rule_end, rule_start}
use Rattle.reading.specs.Verdict.{told, SoundBook}
use Rattle.reading.specs.Copy.{wide_places, term_old, late_from, late_in_atoms, late_in_rules, no_old_form}
use Rattle.reading.proofs.SoundBook.{sound_header, sound_rule}
use Rattle.judging.specs.Found.{told_at}
use Rattle.judging.proofs.FirstFound.{first_wrong, first_told}
use Rattle.forms.specs.Late.{in_rules}

module _ (B : List ℕ) where
  module _ (i n : ℕ) (r : Maybe ℕ) where
    pub wide_told : option_map (λ x. x) r ≡ first_wrong (λ j. leb (byte B j) old.places) i n
        → told_at 13 r ≡ told 13 (wide_places B i n)
    unfolding wide_places
    wide_told = first_told (λ j. leb (byte B j) old.places) (wide_places B) i 13 (λ a. refl) (λ a m l. refl) n r

    pub late_told : option_map (λ x. x) r ≡ first_wrong (λ j. term_old (byte B j)) i n
        → told_at 13 r ≡ told 13 (late_from B i n)
    unfolding late_from
    late_told = first_told (λ j. term_old (byte B j)) (late_from B) i 13 (λ a. refl) (λ a m l. refl) n r

  pub atoms_end : (i n k : ℕ) → n ≤ k → late_in_atoms B i (n - k) ≡ none
  unfolding late_in_atoms
  atoms_end i n k h = rw (sub-eq-zero_of_le h)

  pub atoms_more : (i n k : ℕ) → k < n
      → late_in_atoms B i (n - k)
      ≡ or_else (late_from B (i + 1) (atom_places B)) (late_in_atoms B (i + atom_size B) (n - (k + 1)))
  unfolding late_in_atoms
  atoms_more i n k h = rw (one_more n k h)

  pub rules_end : (s n k : ℕ) → n ≤ k → late_in_rules B s (n - k) ≡ none
  unfolding late_in_rules
  rules_end s n k h = rw (sub-eq-zero_of_le h)

  pub rules_more : (s n k : ℕ) → k < n
      → late_in_rules B s (n - k)
      ≡ or_else (late_in_atoms B (body_at B s) (body_count B s + head_count B s)) (late_in_rules B (rule_end B s) (n - (k + 1)))
  unfolding late_in_rules
  rules_more s n k h = rw (one_more n k h)

  -- a rule of a sound book ends within it
  pub rule_within : SoundBook B → {k s : ℕ} → k < rules B → s ≡ rule_start B k → rule_end B s ≤ length B
  rule_within sound {k} {s} l e =
      subst (λ (x : ℕ). rule_end B x ≤ length B) (sym e)
      (omega (arith, (sound_rule B sound k l).ends, (sound_header B sound).ends))

  -- relations first, then the rules, then the question
  pub in_order : no_old_form B
      ≡ or_else (wide_places B (header_size B) (relations B))
      (or_else (in_rules B) (late_in_atoms B (question_at B) (answer_records B + atoms B)))
  unfolding no_old_form
  in_order = refl
