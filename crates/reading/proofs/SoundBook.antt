-- What a book that is not refused gives the layers above: laws for them to cite. Assumes nothing.
use mathlib.Core.Path.{◌≡◌, refl, sym, ap, subst}
use mathlib.Core.Bool.{Bool, not, ◌&&◌}
use mathlib.Core.Logic.{◌⊎◌, inl, inr}
use mathlib.Core.List.{List}
use mathlib.Core.Option.{Option, none, some}
use Prim.Native.Nat.{ℕ, ◌+◌, ◌*◌, ◌≤◌, ◌<◌}
use native.Mathlib.Omega.{arith}
use lib.Dec.{T, ltb, leb, eqb→eq, ltb→lt, leb→le}
use borrow.Author.Tests.{lt-ltb, le-ltb}
use lib.ListN.{length}
use Rattle.covering.specs.Lists.{or_else}
use Rattle.covering.specs.Record.{Layout, holding, stored, size, atom_at, is_term, is_relation, is_atom, are_atoms}
use Rattle.covering.proofs.Tests.{decide, clash, or_cases, fst_of, snd_of, none≢some, le_or_lt, true→T}
use Rattle.covering.proofs.Places.{is_variable, is_constant, is_atom_lem, are_atoms_lem, atom_args}
use Rattle.covering.proofs.Bytes.{relation_in}
use Rattle.reading.specs.Refusal.{Refusal}
use Rattle.reading.specs.Word.{byte}
use Rattle.reading.specs.Header.{new, form_of}
use Rattle.reading.specs.Header.{header_size, relations, constants, rules, question_at, header_of, atom_size}
use Rattle.reading.specs.Header.{inside, constants_range, places_range, body_range, head_range}
use Rattle.reading.specs.Header.{atom_places, variables}
use Rattle.reading.specs.Book.{body_count, head_count, body_at, head_at, rule_end, rules_start, rule_start, places_of}
use Rattle.reading.specs.Book.{layout_of}
use Rattle.reading.specs.Refusals.{used_allowed, place_allowed, AtomWrong, relation, place, ApplicableToBook}
use Rattle.reading.specs.Verdict.{IsVerdict, sound, refused, unless, in_table, offsets_right, wrong_places}
use Rattle.reading.specs.Verdict.{wrong_rule, wrong_in_rules, wrong_in_question, wrong_byte, loose_variable, refuse}
use Rattle.reading.specs.Verdict.{contents, verdict, SoundBook}
use Rattle.reading.proofs.Earliest.{Earliest, holds_nowhere}
use Rattle.reading.proofs.Found.{PlacesFrom, places_earliest, RuleBytes, bytes_earliest}
use Rattle.reading.proofs.Conditions.{rule_right_lem, rules_right, unless_none}
use Rattle.reading.proofs.Ranges.{inside_in}
use Rattle.reading.proofs.Forms.{form_known, new_held}
use Rattle.reading.proofs.Exact.{number_from_lem, rules_end_at, verdict_exact}
use Rattle.reading.proofs.Known.{HeaderKnown, header_known}

-- nothing applies to a sound book
pub sound_none : (B : List ℕ) → SoundBook B → (n p : ℕ) → ApplicableToBook B n p → ⊥
sound_none B s = go (verdict_exact B)
  where
    go : IsVerdict B (verdict B) → (n p : ℕ) → ApplicableToBook B n p → ⊥
    go (sound e f) = f
    go (refused a f) = λ n p b. let h = number_from_lem B a in omega arith

-- and every test is passed
refuse_zero : (n : ℕ) (o : Option ℕ) (r : Refusal) → 0 < n → (refuse n o r).number ≡ 0
    → (o ≡ none) × (r.number ≡ 0)
refuse_zero n none r l e = (refl, e)
refuse_zero n (some p) r l e = absurd (omega arith)

else_none : (a b : Option ℕ) → or_else a b ≡ none → (a ≡ none) × (b ≡ none)
else_none none b e = (refl, e)
else_none (some p) b e = absurd (none≢some (sym e))

pub record Passed (B : List ℕ) : Type 0 where
  long : T (leb (header_size B) (length B))
  table : T (in_table (header_of B))
  offsets : T (offsets_right (header_of B) (length B))
  places : wrong_places B (header_size B) (relations B) ≡ none
  rules_are : wrong_rule B (question_at B) (rules_start B) (rules B) ≡ none
  in_rules_is : wrong_in_rules B (rules_start B) (rules B) ≡ none
  pub in_question : wrong_in_question B ≡ none
  pub none_loose : loose_variable B ≡ none

pub passed : (B : List ℕ) → SoundBook B → Passed B
unfolding verdict contents wrong_byte
passed B s =
    let r₂ = refuse_zero 2 (unless (leb (header_size B) (length B)) 0) _ (omega arith) s in
    let r₃ = refuse_zero 3 (unless (in_table (header_of B)) 0) _ (omega arith) r₂.1 in
    let r₄ = refuse_zero 4 (unless (offsets_right (header_of B) (length B)) 0) _ (omega arith) r₃.1 in
    let r₅ = refuse_zero 5 (wrong_places B (header_size B) (relations B)) _ (omega arith) r₄.1 in
    let r₆ = refuse_zero 6 (wrong_rule B (question_at B) (rules_start B) (rules B)) _ (omega arith) r₅.1 in
    let r₇ = refuse_zero 7 (wrong_byte B) _ (omega arith) r₆.1 in
    let r₁₁ = refuse_zero 11 (loose_variable B) _ (omega arith) r₇.1 in
    let b = else_none (wrong_in_rules B (rules_start B) (rules B)) (wrong_in_question B) r₇.0 in
    record {
      long = unless_none (leb (header_size B) (length B)) 0 r₂.0;
      table = unless_none (in_table (header_of B)) 0 r₃.0;
      offsets = unless_none (offsets_right (header_of B) (length B)) 0 r₄.0;
      places = r₅.0;
      rules_are = r₆.0;
      in_rules_is = b.0;
      in_question = b.1;
      none_loose = r₁₁.0;
    }

-- a layout that has room for the book's atoms: the book's own has, and the desk's
pub record BookRoom (B : List ℕ) (L : Layout) : Type 0 where
  pub relations_fit : relations B ≤ L.relations
  pub places_are : L.places ≡ atom_places B
  pub variables_fit : variables B ≤ L.variables
  pub constants_fit : constants B ≤ L.constants

-- the places after the byte i, u of them used, none of them wrong
pub record UsedRight (B : List ℕ) (i u : ℕ) : Type 0 where
  pub some_place : 1 ≤ u
  pub few_places : u ≤ atom_places B
  pub places : (w : ℕ) → w < atom_places B → T (place_allowed (variables B) (constants B) (ltb w u) (byte B (i + 1 + w)))

-- an atom at i with no wrong byte
pub record AtomRight (B : List ℕ) (i : ℕ) : Type 0 where
  pub relation : byte B i < relations B
  pub used : UsedRight B i (places_of B (byte B i))

-- a rule at s of a sound book
pub record SoundRule (B : List ℕ) (s : ℕ) : Type 0 where
  pub few_body : body_count B s ≤ body_range.most
  pub some_head : head_range.least ≤ head_count B s
  pub few_head : head_count B s ≤ head_range.most
  pub ends : rule_end B s ≤ question_at B
  pub body : (j : ℕ) → j < body_count B s → AtomRight B (body_at B s + atom_size B * j)
  pub head : (j : ℕ) → j < head_count B s → AtomRight B (head_at B s + atom_size B * j)

module _ (B : List ℕ) where
  pub own_room : BookRoom B (layout_of B)
  own_room =
      record {
        relations_fit = omega arith;
        places_are = refl;
        variables_fit = omega arith;
        constants_fit = omega arith;
      }

  used_term : (L : Layout) → BookRoom B L → (b : ℕ) → T (used_allowed (variables B) (constants B) b) → T (is_term L b)
  used_term L r b t = go (or_cases (ltb b (variables B)) (leb 128 b && ltb b (128 + constants B)) t)
    where
      go : T (ltb b (variables B)) ⊎ T (leb 128 b && ltb b (128 + constants B)) → T (is_term L b)
      go (inl h) =
          let l : b < variables B = ltb→lt _ _ h in
          is_variable L b (omega (arith, r.variables_fit))
      go (inr h) =
          let l : 128 ≤ b = leb→le _ _ (fst_of (leb 128 b) (ltb b (128 + constants B)) h) in
          let m : b < 128 + constants B = ltb→lt _ _ (snd_of (leb 128 b) (ltb b (128 + constants B)) h) in
          is_constant L b l (omega (arith, r.constants_fit))

  -- a used place, an unused place
  module _ {i u : ℕ} (a : UsedRight B i u) where
    pub used_place : (w : ℕ) → w < u → T (used_allowed (variables B) (constants B) (byte B (i + 1 + w)))
    used_place w l =
        subst (λ (x : Bool). T (place_allowed (variables B) (constants B) x (byte B (i + 1 + w)))) (lt-ltb w u l)
        (a.places w (omega (arith, a.few_places)))

    pub unused_place : (w : ℕ) → u ≤ w → w < atom_places B → byte B (i + 1 + w) ≡ 255
    unused_place w l m =
        eqb→eq (byte B (i + 1 + w)) 255
        (subst (λ (x : Bool). T (place_allowed (variables B) (constants B) x (byte B (i + 1 + w)))) (le-ltb w u l)
        (a.places w m))

    -- with a relation before them they are an atom
    pub used_atom : (L : Layout) → BookRoom B L → T (is_relation L (byte B i)) → T (is_atom L B i)
    used_atom L r t =
        is_atom_lem L B i u t a.some_place (omega (arith, a.few_places, r.places_are))
        (λ w l. used_term L r _ (used_place w l)) (λ w l m. unused_place w l (omega (arith, r.places_are)))

    -- an atom has as many terms as it has places used
    pub used_places : constants B ≤ constants_range.most → length (atom_at (holding (atom_places B)) B i).args ≡ u
    used_places c =
        atom_args (holding (atom_places B)) B i u a.few_places
        (λ w l e. not_last (byte B (i + 1 + w)) (used_place w l) e) unused_place
      where
        not_last : (b : ℕ) → T (used_allowed (variables B) (constants B) b) → b ≡ 255 → ⊥
        not_last b t e = go (or_cases (ltb b (variables B)) (leb 128 b && ltb b (128 + constants B)) t)
          where
            go : T (ltb b (variables B)) ⊎ T (leb 128 b && ltb b (128 + constants B)) → ⊥
            go (inl h) = let l : b < variables B = ltb→lt _ _ h in omega (arith, (form_known B).few_variables)
            go (inr h) =
                let m : b < 128 + constants B = ltb→lt _ _ (snd_of (leb 128 b) (ltb b (128 + constants B)) h) in
                omega arith

  pub right_atom : {i : ℕ} → AtomRight B i → (L : Layout) → BookRoom B L → T (is_atom L B i)
  right_atom {i} a L r =
      used_atom a.used L r
      (true→T _ (relation_in L (byte B i) (omega (arith, a.relation, r.relations_fit))))

  -- it has as many terms as its relation has places
  pub right_places : {i : ℕ} → AtomRight B i → constants B ≤ constants_range.most
      → length (atom_at (holding (atom_places B)) B i).args ≡ places_of B (byte B i)
  right_places a c = used_places a.used c

  -- n atoms from i on, each of them right
  pub right_atoms : (L : Layout) → BookRoom B L → (i n : ℕ) → ((j : ℕ) → j < n → AtomRight B (i + atom_size B * j))
      → T (are_atoms L B i n)
  right_atoms L r i n f = are_atoms_lem L B i n (λ j l. subst at (spread j) (right_atom (f j l) L r))
    where
      at : ℕ → Type 0
      at k = T (is_atom L B k)

      spread : (j : ℕ) → i + atom_size B * j ≡ i + size L * j
      spread j = ap (λ (w : ℕ). i + (1 + w) * j) (sym r.places_are)

  module _ (s : SoundBook B) where
    -- the header's numbers
    pub sound_header : HeaderKnown B (header_of B)
    sound_header = header_known B (passed B s).table (passed B s).offsets

    pub sound_long : header_size B ≤ length B
    sound_long = leb→le _ _ (passed B s).long

    pub holding_room : BookRoom B (holding (atom_places B))
    holding_room =
        let k = sound_header in
        record {
          relations_fit = k.few_relations;
          places_are = refl;
          variables_fit = omega (arith, (form_known B).few_variables);
          constants_fit = k.few_constants;
        }

    pub stored_room : form_of B ≡ new → BookRoom B stored
    stored_room e = subst (BookRoom B) (new_held B e) holding_room

    -- "Relations: P bytes, each the number of places, 1 to 4."; 1 to 6 in the new form
    pub sound_places : (r : ℕ) → r < relations B → (1 ≤ places_of B r) × (places_of B r ≤ atom_places B)
    sound_places r l = go (decide (inside (places_range (form_of B)) (places_of B r)))
      where
        none_wrong : (p : ℕ) → PlacesFrom B (header_size B) (relations B) p → ⊥
        none_wrong =
            holds_nowhere
            (subst (Earliest (PlacesFrom B (header_size B) (relations B))) (passed B s).places
            (places_earliest B (header_size B) (relations B)))

        go : T (inside (places_range (form_of B)) (places_of B r))
            ⊎ T (not (inside (places_range (form_of B)) (places_of B r)))
            → (1 ≤ places_of B r) × (places_of B r ≤ atom_places B)
        go (inl t) = inside_in (places_range (form_of B)) t
        go (inr t) =
            absurd
            (none_wrong (header_size B + r)
            (omega arith, omega arith, λ u. clash (inside (places_range (form_of B)) (places_of B r)) u t))

    pub not_wrong : (i : ℕ) → ((p : ℕ) → AtomWrong B i p → ⊥) → AtomRight B i
    not_wrong i f =
        let l = below (le_or_lt (relations B) (byte B i)) in
        let u = sound_places (byte B i) l in
        record {
          relation = l;
          used =
              record { some_place = u.0; few_places = u.1; places = λ w m. allowed l w m (decide (ok w)) };
        }
      where
        below : (relations B ≤ byte B i) ⊎ (byte B i < relations B) → byte B i < relations B
        below (inl h) = absurd (f i (relation h refl))
        below (inr h) = h

        ok : ℕ → Bool
        ok w = place_allowed (variables B) (constants B) (ltb w (places_of B (byte B i))) (byte B (i + 1 + w))

        allowed : byte B i < relations B → (w : ℕ) → w < atom_places B → T (ok w) ⊎ T (not (ok w)) → T (ok w)
        allowed l w m (inl t) = t
        allowed l w m (inr t) = absurd (f (i + 1 + w) (place l w m refl (λ u. clash (ok w) u t)))

    -- the rules, each where it starts, end where the question starts
    pub sound_end : rule_start B (rules B) ≡ question_at B
    sound_end = rules_end_at B (passed B s).offsets (passed B s).rules_are

    pub sound_rule : (k : ℕ) → k < rules B → SoundRule B (rule_start B k)
    sound_rule k l =
        let r = rule_right_lem B (question_at B) start (rules_right B _ _ _ (passed B s).rules_are k l) in
        record {
          few_body = (inside_in body_range r.body_in).1;
          some_head = (inside_in head_range r.head_in).0;
          few_head = (inside_in head_range r.head_in).1;
          ends = r.ends;
          body = λ j m. not_wrong _ (λ p w. none_wrong p (k, l, (j, omega arith, w)));
          head = λ j m. not_wrong _ (λ p w. none_wrong p (k, l, (body_count B start + j, omega arith, moved p j w)));
        }
      where
        start : ℕ
        start = rule_start B k

        none_wrong : (p : ℕ) → RuleBytes B (rules_start B) (rules B) p → ⊥
        none_wrong =
            holds_nowhere
            (subst (Earliest (RuleBytes B (rules_start B) (rules B))) (passed B s).in_rules_is
            (bytes_earliest B (rules_start B) (rules B)))

        moved : (p j : ℕ) → AtomWrong B (head_at B start + atom_size B * j) p
            → AtomWrong B (body_at B start + atom_size B * (body_count B start + j)) p
        moved p j w = subst (λ (i : ℕ). AtomWrong B i p) (omega arith) w

    -- the atoms of rules in the form of `cover`'s records, for every layout that has room for them
    module _ (L : Layout) (room : BookRoom B L) where
      pub sound_body : (k : ℕ) → k < rules B
          → T (are_atoms L B (body_at B (rule_start B k)) (body_count B (rule_start B k)))
      sound_body k l = right_atoms L room _ _ (sound_rule k l).body

      pub sound_head : (k : ℕ) → k < rules B
          → T (are_atoms L B (head_at B (rule_start B k)) (head_count B (rule_start B k)))
      sound_head k l = right_atoms L room _ _ (sound_rule k l).head
