-- One turn of a member's exploration, as the loop of `explore` finds it: what is known of the rewriting taken. Assumes nothing.
use mathlib.Core.Path.{◌≡◌, sym, ◌∙◌, ap, subst}
use mathlib.Core.Bool.{Bool}
use mathlib.Core.List.{List}
use Prim.Native.Nat.{ℕ, ◌<◌}
use lib.ListN.{length, get_or}
use Rattle.std.specs.Prelude.{Result}
use Rattle.covering.specs.Lists.{◌∈◌}
use Rattle.covering.specs.Term.{Question}
use Rattle.covering.specs.Search.{covers}
use Rattle.covering.specs.Record.{stored, question_of, SoundRecord}
use Rattle.covering.specs.Rule.{Rule}
use Rattle.covering.proofs.Lengths.{question_count}
use Rattle.reading.specs.Header.{form_of, new, rules as rules_of}
use Rattle.reading.specs.Book.{book_of, rule_at, rule_start}
use Rattle.reading.specs.Verdict.{SoundBook}
use Rattle.reading.specs.declared.Reason.{Reason}
use Rattle.unification.specs.Choice.{count}
use Rattle.unification.proofs.Following.{listed_below}
use Rattle.lister.specs.Listing.{QuestionIn}
use Rattle.lister.proofs.FromBook.{member_in}
use Rattle.admit.specs.declared.Fate.{Fate}
use Rattle.admit.specs.WorkingArray.{UnionFateIs}
use Rattle.exploration.specs.Run.{State, apart, all_rewritings, limits_for}
use Rattle.exploration.specs.Refusals.{answers_of, limits_of}
use Rattle.explore.specs.declared.Taken.{Taken}
use Rattle.explore.specs.Exploring.{MemberIn}
use Rattle.explore.specs.Skipping.{GoesOn}
use Rattle.explore.proofs.Among.{rule_here}
use Rattle.explore.proofs.Coming.{Given}
use Rattle.explore.proofs.Records.{rewriting_sound, rewriting_question, member_sound}
use Rattle.explore.proofs.Onward.{Onward, rewriting_in}

module _ {B R : List ℕ} (s : SoundBook B) (m : MemberIn B R) where
  -- the member itself
  pub member_question_in : form_of B ≡ new → QuestionIn R
  member_question_in f = subst QuestionIn (sym m.holds) (member_in B s f _ m.fits)

  pub member_record : SoundRecord stored R
  member_record = subst (SoundRecord stored) (sym m.holds) (member_sound B s _ m.fits)

  -- the rewriting taken
  module _ {b u : State} {k n : ℕ} {t : Taken} {out : List ℕ}
      (o : Onward (limits_of B) (book_of B).rules (question_of stored R) b u k n)
      (g : Given (question_of stored R) k n (book_of B).rules t out)
    where
      listed : g.rewriting ∈ all_rewritings (book_of B).rules (question_of stored R)
      listed = rewriting_in _ _ _ _ o g

      -- its record is sound, and its question is the rewriting
      pub taken_sound : SoundRecord stored out
      taken_sound = subst (SoundRecord stored) (sym g.bytes) (rewriting_sound B s _ m.fits m.shaped _ listed)

      question : question_of stored out ≡ g.rewriting
      question = ap (question_of stored) g.bytes ∙ rewriting_question B s _ m.fits m.shaped _ listed

      pub taken_covers : (b : Bool) → b ≡ covers (question_of stored out) (question_of stored R)
          → covers g.rewriting (question_of stored R) ≡ b
      taken_covers b h = ap (λ (Q : Question). covers Q (question_of stored R)) (sym question) ∙ sym h

      -- what became of it
      pub taken_fate : {a : ℕ} → a ≡ answers_of B → (v : State) (r q : Result Fate Reason) → r ≡ q
          → UnionFateIs (limits_for a) u (question_of stored out) v r → UnionFateIs (limits_of B) u g.rewriting v q
      taken_fate is v r q e h =
          subst (λ (P : Question). UnionFateIs (limits_of B) u P v q) question
          (subst (λ (a : ℕ). UnionFateIs (limits_for a) u (question_of stored out) v q) is
          (subst (UnionFateIs _ u (question_of stored out) v) e h))

      -- its rule, and its choice
      here : (t.rule < rules_of B) × (g.here ≡ rule_at B (rule_start B t.rule))
      here = rule_here B _ g.rules_are

      pub taken_rule : t.rule < rules_of B
      taken_rule = here.0

      pub taken_choice : t.choice < count (length (rule_at B (rule_start B t.rule)).head) (get_or R 0 0)
      taken_choice =
          subst (λ (r : Rule). t.choice < count (length r.head) (get_or R 0 0)) here.1
          (subst (λ (n : ℕ). t.choice < count (length g.here.head) n) (question_count stored R)
          (listed_below apart g.here (question_of stored R) _ _ g.listed_is))

      -- choices that are passed over after it
      pub taken_passed : {U : List Question} {n : ℕ}
          → GoesOn (rule_at B (rule_start B t.rule)) (question_of stored R) U t.choice n
          → GoesOn g.here (question_of stored R) U t.choice n
      taken_passed {U} {n} p = subst (λ (r : Rule). GoesOn r (question_of stored R) U t.choice n) (sym here.1) p
