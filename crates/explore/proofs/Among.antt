-- Laws of taking the next rewriting (`specs/Taking`), rule by rule, and of finding the oldest unexplored member, member
-- by member. Assumes nothing.
use mathlib.Core.Path.{◌≡◌, refl, sym, ◌∙◌, ap, subst}
use mathlib.Core.Logic.{◌⊎◌, inl, inr}
use mathlib.Core.List.{List, [], ◌∷◌}
use mathlib.Core.Option.{Option, none, some}
use Prim.Native.Nat.{ℕ, suc, ◌+◌, ◌-◌, ◌≤◌, ◌<◌}
use native.Mathlib.Omega.{arith}
use native.Mathlib.Nat.{sub-zero}
use lib.ListN.{length, get_or, drop}
use lib.Seq.{drop-drop}
use Rattle.std.specs.Prelude.{Some, None}
use Rattle.std.specs.Prelude.{Option as Answer}
use Rattle.covering.specs.Lists.{head}
use Rattle.covering.specs.Term.{Question}
use Rattle.covering.specs.Record.{stored, question_of}
use Rattle.covering.specs.Rule.{Rule}
use Rattle.covering.proofs.Tests.{le_or_lt}
use Rattle.reading.specs.declared.Header.{Header}
use Rattle.book.specs.declared.Parts.{Parts}
use Rattle.reading.specs.Header.{rules, HeaderRead, form_of, new}
use Rattle.book.specs.Parts.{StartsAt, parts_at}
use Rattle.reading.specs.Verdict.{SoundBook}
use Rattle.reading.proofs.SoundBook.{sound_header, sound_rule}
use Rattle.reading.proofs.SoundQuestion.{sound_question}
use Rattle.reading.specs.Book.{rule_at, rules_from, rule_start, book_of}
use Rattle.reading.proofs.Reading.{rules_none, rules_more, rules_left}
use Rattle.explore.specs.declared.Taken.{Taken}
use Rattle.unify.specs.InBytes.{rule_of}
use Rattle.lister.specs.Listing.{RuleIn, FoundIs}
use Rattle.lister.proofs.FromBook.{rule_in_lem, rule_asked}
use Rattle.unification.specs.Step.{next}
use Rattle.exploration.specs.Run.{apart}
use Rattle.explore.specs.Taking.{or_later, next_among, TakenIs, NumberedRewriting}
use Rattle.exploration.specs.Union.{first_at}
use Rattle.exploration.specs.Held.{held_from, held_end}
use Rattle.exploration.specs.Held.{Standing}
use Rattle.exploration.proofs.Standing.{Here, stands}
use Rattle.exploration.proofs.Members.{members_more}

-- an answer to one thing that is sought, with the room as it then came, is one to another that is the same
pub told_same : {o o' : Option NumberedRewriting} {X X' Y : List ℕ} {t : Answer Taken} → o' ≡ o → X ≡ X' → TakenIs o X t Y
    → TakenIs o' X' t Y
told_same {o' = o'} {X = X} {Y = Y} {t = t} e same f =
    subst (λ (Z : List ℕ). TakenIs o' Z t Y) same (subst (λ (p : Option NumberedRewriting). TakenIs p X t Y) (sym e) f)

module _ (B : List ℕ) where
  module _ (M : Question) (k n : ℕ) where
    pub among_none : rules B ≤ k → next_among M k n (rules_from B (rule_start B k) (rules B - k)) ≡ none
    unfolding next_among
    among_none h = ap (next_among M k n) (rules_none B (rule_start B k) (rules B) k h)

    among_more : k < rules B → next_among M k n (rules_from B (rule_start B k) (rules B - k))
        ≡ or_later k (next apart (rule_at B (rule_start B k)) M n)
        (next_among M (suc k) 0 (rules_from B (rule_start B (k + 1)) (rules B - (k + 1))))
    unfolding next_among
    among_more h = ap (next_among M k n) (rules_more B (rules B) k h)

    one_more : suc k ≡ k + 1
    one_more = omega arith

    -- a rule that has none is passed over
    pub among_passed : k < rules B → next apart (rule_at B (rule_start B k)) M n ≡ none
        → next_among M k n (rules_from B (rule_start B k) (rules B - k))
        ≡ next_among M (k + 1) 0 (rules_from B (rule_start B (k + 1)) (rules B - (k + 1)))
    among_passed h e =
        let rest = rules_from B (rule_start B (k + 1)) (rules B - (k + 1)) in
        among_more h
        ∙ ap (λ (o : Option (ℕ × Question)). or_later k o (next_among M (suc k) 0 rest)) e
        ∙ ap (λ (i : ℕ). next_among M i 0 rest) one_more

    module _ (h : k < rules B) (X Y : List ℕ) where
      pub among_found : (c : ℕ) → FoundIs (next apart (rule_at B (rule_start B k)) M n) X (Some c) Y
          → TakenIs (next_among M k n (rules_from B (rule_start B k) (rules B - k))) X
          (Some (record { rule = k; choice = c })) Y
      among_found c e =
          subst (λ (o : Option NumberedRewriting). TakenIs o X said Y) (sym (among_more h))
          (go (next apart (rule_at B (rule_start B k)) M n) e)
        where
          said : Answer Taken
          said = Some (record { rule = k; choice = c })

          later : Option NumberedRewriting
          later = next_among M (suc k) 0 (rules_from B (rule_start B (k + 1)) (rules B - (k + 1)))

          go : (o : Option (ℕ × Question)) → FoundIs o X (Some c) Y → TakenIs (or_later k o later) X said Y
          go none x = let a = x.answer in cc
          go (some y) x =
              let same : c ≡ y.0 = let a = x.answer in cc in
              record {
                answer = ap (λ (d : ℕ). Some (record { rule = k; choice = d })) same;
                room = x.room;
              }

      pub among_later : FoundIs (next apart (rule_at B (rule_start B k)) M n) X None Y
          → (next_among M k n (rules_from B (rule_start B k) (rules B - k))
          ≡ next_among M (k + 1) 0 (rules_from B (rule_start B (k + 1)) (rules B - (k + 1))))
          × (Y ≡ X)
      among_later e = go (next apart (rule_at B (rule_start B k)) M n) refl e
        where
          go : (o : Option (ℕ × Question)) → next apart (rule_at B (rule_start B k)) M n ≡ o → FoundIs o X None Y
              → (next_among M k n (rules_from B (rule_start B k) (rules B - k))
              ≡ next_among M (k + 1) 0 (rules_from B (rule_start B (k + 1)) (rules B - (k + 1))))
              × (Y ≡ X)
          go none i x = (among_passed h i, x.room)
          go (some y) i x = let a = x.answer in cc

-- the first of the book's rules from the k-th on
pub rule_here : (B : List ℕ) (k : ℕ) {r : Rule} {others : List Rule} → drop k (book_of B).rules ≡ r ∷ others
    → (k < rules B) × (r ≡ rule_at B (rule_start B k))
rule_here B k {r} {others} e = go (le_or_lt (rules B) k)
  where
    go : (rules B ≤ k) ⊎ (k < rules B) → (k < rules B) × (r ≡ rule_at B (rule_start B k))
    go (inl l) = absurd (none_first (sym (rules_none B (rule_start B k) (rules B) k l) ∙ sym (rules_left B k) ∙ e))
      where
        none_first : [] ≡ r ∷ others → ⊥
        none_first z = let y : ◌≡◌ {A = ℕ} 0 1 = cc in omega arith
    go (inr l) = (l, first_same (sym e ∙ rules_left B k ∙ rules_more B (rules B) k l))
      where
        first_same : {x y : Rule} {xs ys : List Rule} → x ∷ xs ≡ y ∷ ys → x ≡ y
        first_same z = cc

-- the members from the i-th on stand from `at` on
pub record From (W : List ℕ) (count at i : ℕ) : Type 0 where
  pub standing : Standing W at (count - i)
  pub members : drop i (held_from W first_at count) ≡ held_from W at (count - i)

module _ (W : List ℕ) (count : ℕ) where
  pub from_first : Standing W first_at count → From W count first_at 0
  from_first s = record { standing = rw sub-zero s; members = rw sub-zero }

  module _ {at i : ℕ} (f : From W count at i) (h : i < count) where
    pub from_here : Here W at (count - (i + 1))
    from_here = stands W at i count h f.standing

    pub from_next : From W count (held_end W at) (i + 1)
    from_next =
        record {
          standing = from_here.rest;
          members =
              sym (drop-drop 1 i (held_from W first_at count))
              ∙ ap (drop 1) (f.members ∙ members_more W at count i h);
        }

    pub from_head : head (drop i (held_from W first_at count)) ≡ some (question_of stored (drop at W))
    from_head = ap head (f.members ∙ members_more W at count i h)

-- what the loop over rules needs of a sound book and of what was read of it
module _ (B : List ℕ) (s : SoundBook B) where
  pub rules_read : (h : Header) → HeaderRead B h → h.rules ≡ rules B
  rules_read h r = ap (λ (x : Header). x.rules) r.is

  pub rules_few : rules B ≤ 32
  rules_few = (sound_header B s).few_rules

  pub start_within : (k : ℕ) → k < rules B → rule_start B k + 2 ≤ length B
  start_within k l = let r = sound_rule B s k l in let q = sound_question B s in omega (arith, r.ends, q.ends)

  -- the rule at hand, where `starts` says
  module _ (starts : List ℕ) (a : StartsAt B starts) (k : ℕ) (l : k < rules B) where
    pub start_is : get_or starts k 0 ≡ rule_start B k
    start_is = a.starts k (omega arith)

    pub start_fits : get_or starts k 0 + 2 ≤ length B
    start_fits = omega (arith, start_is, start_within k l)

    pub start_inside : k < length starts
    start_inside = omega (arith, a.size, rules_few)

    module _ (f : form_of B ≡ new) (p : Parts) (e : p ≡ parts_at B (get_or starts k 0)) where
      pub parts_are : p ≡ parts_at B (rule_start B k)
      parts_are = e ∙ ap (parts_at B) start_is

      pub parts_in : RuleIn B p
      parts_in = subst (RuleIn B) (sym parts_are) (rule_in_lem B s f k l)

      pub rule_is : rule_of B p ≡ rule_at B (rule_start B k)
      rule_is = ap (rule_of B) parts_are ∙ rule_asked B f (rule_start B k)
