-- How the code knows which rules can have a rewriting: for each rule of a book the set of its head's relations, as
-- `records` holds sets, and whether the rule has existential variables. A rule with no head relation in the member has
-- no rewriting (`unification`'s `Unrelated`).
use Rattle.std.specs.Prelude.{◌≡◌, List, ℕ, ◌<◌, get_or}
use Rattle.covering.specs.Rule.{Rule}
use Rattle.records.specs.Relations.{relations_of}
use Rattle.reading.specs.Header.{rules, form_of, new}
use Rattle.reading.specs.Verdict.{SoundBook}
use Rattle.book.specs.Parts.{StartsAt}
use Rattle.reading.specs.Book.{rule_at, rule_start}
use Rattle.unify.specs.Unknowns.{has_unknowns}
use Rattle.exploration.specs.Refusals.{answers_of}
use Rattle.explore.specs.declared.Head.{Head}

-- what is known of a rule's head
abbrev pub head_told : Rule → Head
head_told r = record { relations = relations_of r.head; unknowns = has_unknowns r }

pub record HeadSets (B : List ℕ) (heads : List Head) : Type 0 where
  pub told : (k : ℕ) (d : Head) → k < rules B → get_or heads k d ≡ head_told (rule_at B (rule_start B k))

-- how many rules the book B has, in which form it is, where they start, what is known of their heads, and how
-- many answer records its question has
pub record RulesRead (B : List ℕ) (count : ℕ) (starts : List ℕ) (heads : List Head) (answers : ℕ) : Type 0 where
  pub sound : SoundBook B
  pub form : form_of B ≡ new
  pub number : count ≡ rules B
  pub starts_at : StartsAt B starts
  pub heads_are : HeadSets B heads
  pub answers_are : answers ≡ answers_of B
