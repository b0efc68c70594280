-- The rules of a written book: they are read again, they end where the question starts, and nothing in them is wrong.
-- Assumes nothing.
use mathlib.Core.Path.{◌≡◌, refl, sym, ◌∙◌, ap, ap₂, subst}
use mathlib.Core.Logic.{◌⊎◌, inl, inr}
use mathlib.Core.List.Memᴰ
use mathlib.Core.List.{List, [], ◌∷◌, ◌++◌, append_assoc}
use mathlib.Core.Option.{none, some}
use Prim.Native.Nat.{ℕ, ◌+◌, ◌*◌, ◌≤◌}
use native.Mathlib.Omega.{arith}
use lib.Dec.{T, leb, le→leb}
use lib.ListN.{length, drop, length-append}
use Rattle.covering.specs.Lists.{◌∈◌}
use Rattle.covering.specs.Term.{Atom}
use Rattle.covering.specs.Record.{holding, atoms_at, atom_bytes}
use Rattle.covering.specs.Rule.{Rule}
use Rattle.covering.proofs.Lists.{gather_append}
use Rattle.covering.proofs.Tests.{both, cond_yes}
use Rattle.reading.specs.Header.{Range, inside, body_range, head_range, form_of, atom_places, atom_size}
use Rattle.reading.specs.Book.{Book, body_count, head_count, body_at, head_at, rule_end, rule_at, rules_from}
use Rattle.reading.specs.Verdict.{rule_right, wrong_rule, wrong_in_atoms, wrong_in_rules}
use Rattle.reading.specs.Written.{atoms_bytes, rule_bytes, rules_bytes, Within, BookAtom, BookRule, BookFits}
use Rattle.reading.proofs.AtPlace.{byte_here, byte_next, past, at_place}
use Rattle.reading.proofs.Reading.{rule_body, rule_head}
use Rattle.reading.proofs.WrittenAtoms.{passes, both_none, atoms_none, atoms_there, atoms_size}
use Rattle.reading.proofs.WrittenHeader.{IsWritten}

-- a number within a range passes its test
pub inside_of : (r : Range) {n : ℕ} → Within r n → T (inside r n)
inside_of r {n} h = both (leb r.least n) (leb n r.most) (le→leb _ _ h.0) (le→leb _ _ h.1)

rule_path : {r t : Rule} → r.body ≡ t.body → r.head ≡ t.head → r ≡ t
rule_path p q = λ i. record { body = p i; head = q i }

module _ (B : List ℕ) (b : Book) (fits : BookFits (form_of B) b) (is : IsWritten B b) where
  -- one rule at s
  module _ (s : ℕ) (r : Rule) (R : List ℕ) (k : BookRule (form_of B) b r)
      (e : drop s B ≡ rule_bytes (form_of B) r ++ R)
    where
      counts : drop s B
          ≡ length r.body ∷ length r.head
          ∷ ((atoms_bytes (form_of B) r.body ++ atoms_bytes (form_of B) r.head) ++ R)
      unfolding rule_bytes
      counts = e

      body_here : body_count B s ≡ length r.body
      body_here = byte_here B s _ _ counts

      head_here : head_count B s ≡ length r.head
      head_here = byte_here B (s + 1) _ _ (byte_next B s _ _ counts)

      both_there : drop (body_at B s) B ≡ (atoms_bytes (form_of B) r.body ++ atoms_bytes (form_of B) r.head) ++ R
      both_there = at_place B two (byte_next B (s + 1) _ _ (byte_next B s _ _ counts))
        where
          two : s + 2 ≡ s + 1 + 1
          two = omega arith

      body_there : drop (body_at B s) B ≡ atoms_bytes (form_of B) r.body ++ (atoms_bytes (form_of B) r.head ++ R)
      body_there = both_there ∙ append_assoc (atoms_bytes (form_of B) r.body) (atoms_bytes (form_of B) r.head) R

      body_size : atom_size B * body_count B s ≡ length (atoms_bytes (form_of B) r.body)
      body_size = ap (λ (n : ℕ). atom_size B * n) body_here ∙ sym (atoms_size B r.body)

      head_size : atom_size B * head_count B s ≡ length (atoms_bytes (form_of B) r.head)
      head_size = ap (λ (n : ℕ). atom_size B * n) head_here ∙ sym (atoms_size B r.head)

      head_there : drop (head_at B s) B ≡ atoms_bytes (form_of B) r.head ++ R
      head_there =
          past B (body_at B s) (head_at B s) (atoms_bytes (form_of B) r.body) _ (omega (arith, body_size)) body_there

      rule_ends : rule_end B s ≡ s + length (rule_bytes (form_of B) r)
      unfolding rule_bytes
      rule_ends =
          omega (
            arith,
            body_size,
            head_size,
            length-append (atoms_bytes (form_of B) r.body) (atoms_bytes (form_of B) r.head),
          )

      next_there : drop (rule_end B s) B ≡ R
      next_there = past B s (rule_end B s) (rule_bytes (form_of B) r) R rule_ends e

      rule_read : rule_at B s ≡ r
      rule_read =
          rule_path
          (rule_body B s
          ∙ ap (atoms_at (holding (atom_places B)) B (body_at B s)) body_here
          ∙ atoms_there B b fits is (body_at B s) r.body _ k.body body_there)
          (rule_head B s
          ∙ ap (atoms_at (holding (atom_places B)) B (head_at B s)) head_here
          ∙ atoms_there B b fits is (head_at B s) r.head R k.head head_there)

      rule_right_lem : (q : ℕ) → rule_end B s ≤ q → T (rule_right B q s)
      unfolding rule_right
      rule_right_lem q l =
          both (inside body_range (body_count B s)) _
          (subst (λ (n : ℕ). T (inside body_range n)) (sym body_here) (inside_of body_range k.the_body_count))
          (both (inside head_range (head_count B s)) _
          (subst (λ (n : ℕ). T (inside head_range n)) (sym head_here) (inside_of head_range k.the_head_count))
          (le→leb (rule_end B s) q l))

      none_wrong : wrong_in_atoms B (body_at B s) (body_count B s + head_count B s) ≡ none
      none_wrong =
          ap (wrong_in_atoms B (body_at B s)) (omega (arith, body_here, head_here, length-append r.body r.head))
          ∙ atoms_none B b fits is (body_at B s) (r.body ++ r.head) R each
          (both_there
          ∙ ap (λ (l : List ℕ). l ++ R)
          (sym (gather_append (atom_bytes (holding (atom_places B))) r.body r.head)))
        where
          each : (a : Atom) → a ∈ r.body ++ r.head → BookAtom (form_of B) b a
          each a m = go (Memᴰ.append_cases r.body m)
            where
              go : (a ∈ r.body) ⊎ (a ∈ r.head) → BookAtom (form_of B) b a
              go (inl n) = k.body a n
              go (inr n) = k.head a n

  -- the rules from s on
  pub rules_read : (s : ℕ) (rs : List Rule) (R : List ℕ) → ((r : Rule) → r ∈ rs → BookRule (form_of B) b r)
      → drop s B ≡ rules_bytes (form_of B) rs ++ R → rules_from B s (length rs) ≡ rs
  unfolding rules_from
  rules_read s [] R f e = refl
  rules_read s (r ∷ rs) R f e =
      let k = f r (Memᴰ.head refl) in
      let there = e ∙ append_assoc (rule_bytes (form_of B) r) (rules_bytes (form_of B) rs) R in
      ap₂ ◌∷◌ (rule_read s r _ k there)
      (rules_read (rule_end B s) rs R (λ x m. f x (Memᴰ.tail m)) (next_there s r _ k there))

  pub rules_none : (s : ℕ) (rs : List Rule) (R : List ℕ) → ((r : Rule) → r ∈ rs → BookRule (form_of B) b r)
      → drop s B ≡ rules_bytes (form_of B) rs ++ R → wrong_in_rules B s (length rs) ≡ none
  unfolding wrong_in_rules
  rules_none s [] R f e = refl
  rules_none s (r ∷ rs) R f e =
      let k = f r (Memᴰ.head refl) in
      let there = e ∙ append_assoc (rule_bytes (form_of B) r) (rules_bytes (form_of B) rs) R in
      both_none (none_wrong s r _ k there)
      (rules_none (rule_end B s) rs R (λ x m. f x (Memᴰ.tail m)) (next_there s r _ k there))

  pub rules_right : (q s : ℕ) (rs : List Rule) (R : List ℕ) → ((r : Rule) → r ∈ rs → BookRule (form_of B) b r)
      → drop s B ≡ rules_bytes (form_of B) rs ++ R → q ≡ s + length (rules_bytes (form_of B) rs)
      → wrong_rule B q s (length rs) ≡ none
  unfolding wrong_rule
  rules_right q s [] R f e h = cond_yes (leb q s) none (some s) (le→leb q s (omega arith))
  rules_right q s (r ∷ rs) R f e h =
      let k = f r (Memᴰ.head refl) in
      let there = e ∙ append_assoc (rule_bytes (form_of B) r) (rules_bytes (form_of B) rs) R in
      let ends : q ≡ rule_end B s + length (rules_bytes (form_of B) rs) =
      omega (arith, rule_ends s r _ k there, length-append (rule_bytes (form_of B) r) (rules_bytes (form_of B) rs))
      in
      passes (rule_right B q s) s _ (rule_right_lem s r _ k there q (omega arith))
      (rules_right q (rule_end B s) rs R (λ x m. f x (Memᴰ.tail m)) (next_there s r _ k there) ends)
