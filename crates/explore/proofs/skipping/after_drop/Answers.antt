-- `explore::skipping::after_drop` meets its contract: it goes on at the next choice, or where `after_covered` says.
use native.Mathlib.Omega.{arith}
use mathlib.Core.Path.{◌≡◌, refl, sym, ap, ◌∙◌, subst}
use mathlib.Core.List.{List}
use Prim.Native.Nat.{ℕ, ◌<◌}
use lib.ListN.{length, get_or}
use Rattle.covering.specs.Rule.{Rule}
use Rattle.covering.specs.Record.{stored, question_of}
use Rattle.reading.specs.Header.{rules as rules_of}
use Rattle.reading.specs.Book.{rule_at, rule_start}
use Rattle.book.specs.declared.Parts.{Parts}
use Rattle.book.specs.Parts.{parts_at}
use Rattle.unification.specs.Choice.{count as choices}
use Rattle.explore.specs.declared.Head.{Head}
use Rattle.explore.specs.Related.{RulesRead}
use Rattle.lister.specs.Counts.{most_choices}
use Rattle.unify.specs.InBytes.{rule_of}
use Rattle.lister.specs.Listing.{QuestionIn, RuleIn}
use Rattle.lister.proofs.Answers.{heads_are}
use Rattle.lister.proofs.Asked.{count_few}
use Rattle.explore.specs.Skipping.{GoesOn}
use Rattle.explore.proofs.Among.{rules_few, start_fits, parts_in, rule_is}
use Rattle.explore.proofs.PassedOver.{goes_next}
use Rattle.explore.proofs.skipping.after_drop.Goals as goal

-- The rule of that number, its parts p as they were read. The rules are those of the book B, which clauses know as A.
module _ (B A Q : List ℕ) {count : ℕ} {starts : List ℕ} {heads : List Head} {answers : ℕ} (v : RulesRead B count starts heads answers)
    (e : B ≡ A) (q : QuestionIn Q) (k c : ℕ) (l : k < rules_of A)
    (few : c < choices (length (rule_at A (rule_start A k)).head) (get_or Q 0 0)) where
  pub in_turn : k < rules_of B
  in_turn = subst (λ (X : List ℕ). k < rules_of X) (sym e) l

  module _ (p : Parts) (is : p ≡ parts_at B (get_or starts k 0)) where
    own_rule : rule_of B p ≡ rule_at A (rule_start A k)
    own_rule =
        rule_is B v.sound starts v.starts_at k in_turn v.form p is ∙ ap (λ (X : List ℕ). rule_at X (rule_start X k)) e

    in_book_lem : RuleIn B p
    in_book_lem = parts_in B v.sound starts v.starts_at k in_turn v.form p is

    -- the choice is one of its
    own_choice : c < choices p.heads (get_or Q 0 0)
    own_choice =
        subst (λ (h : ℕ). c < choices h (get_or Q 0 0)) (ap (λ (r : Rule). length r.head) (sym own_rule) ∙ heads_are B p) few

  small : c < most_choices
  small =
      let p : Parts = parts_at B (get_or starts k 0) in
      let most = count_few p.heads (get_or Q 0 0) (in_book_lem p refl).few_head q.few in
      omega (arith, most, own_choice p refl)

pub overflow_add-result : goal.overflow_add-result
overflow_add-result c =
    let p = c.requires in
    omega (arith, small _ _ _ c.rules.invariant c.rules.view_is p.0 _ _ p.1 p.2)

pub returns-then-now-gt0 : goal.returns-then-now-gt0
returns-then-now-gt0 c = goes_next _ _ _ _

pub offset_bounds-rules-inside-rule : goal.offset_bounds-rules-inside-rule
offset_bounds-rules-inside-rule c =
    let p = c.requires in
    let l = in_turn _ _ _ c.rules.invariant c.rules.view_is p.0 _ _ p.1 p.2 in
    omega (arith, l, rules_few c.rules.inside.book.now c.rules.invariant.sound)

pub bounds-rules-inside-rule : goal.bounds-rules-inside-rule
bounds-rules-inside-rule c =
    let p = c.requires in
    let l = in_turn _ _ _ c.rules.invariant c.rules.view_is p.0 _ _ p.1 p.2 in
    omega (arith, l, rules_few c.rules.inside.book.now c.rules.invariant.sound)

pub rule_at-parts-requires : goal.rule_at-parts-requires
rule_at-parts-requires c =
    let p = c.requires in
    let v = c.rules.invariant in
    let l = in_turn _ _ _ v c.rules.view_is p.0 _ _ p.1 p.2 in
    (start_fits c.rules.inside.book.now v.sound c.rules.inside.starts v.starts_at _ l, v.form)

pub invariant_of-after_covered : goal.invariant_of-after_covered
invariant_of-after_covered c =
    let p = c.requires in
    let r = in_book_lem _ _ _ c.rules.invariant c.rules.view_is p.0 _ _ p.1 p.2 _ c.rule_at-parts.ensures in
    record { body_inside = r.body.fits; head_inside = r.head.fits }

pub after_covered-from-requires : goal.after_covered-from-requires
after_covered-from-requires c =
    let p = c.requires in
    let e = c.rule_at-parts.ensures in (
      p.0,
      in_book_lem _ _ _ c.rules.invariant c.rules.view_is p.0 _ _ p.1 p.2 _ e,
      own_choice _ _ _ c.rules.invariant c.rules.view_is p.0 _ _ p.1 p.2 _ e,
    )

pub overflow_add-choice : goal.overflow_add-choice
overflow_add-choice c =
    let p = c.requires in
    omega (arith, small _ _ _ c.rules.invariant c.rules.view_is p.0 _ _ p.1 p.2)

pub returns : goal.returns
returns c =
    let p = c.requires in
    subst
    (λ (rule : Rule).
    GoesOn rule (question_of stored c.args.member.now) c.args.members.now.members
    c.args.choice c.after_covered-from.result)
    (own_rule _ _ _ c.rules.invariant c.rules.view_is p.0 _ _ p.1 p.2 _ c.rule_at-parts.ensures) c.after_covered-from.ensures
