-- "Every valid choice is a piece-unifier by Definition 11": `choice_piece`. It merges no more than its pairing needs
-- (`choice_no_more`), and its rewriting is the choice's (`choice_beta`). Assumes nothing.
use mathlib.Core.Path.{◌≡◌, refl, sym, ◌∙◌, ap, ap₂, subst}
use mathlib.Core.Logic.{◌⊎◌, inl, inr}
use mathlib.Core.List.Memᴰ
use mathlib.Core.List.{List, [], ◌∷◌, ◌++◌, map}
use mathlib.Core.Option.{some, some-injective}
use Prim.Native.Nat.{ℕ}
use lib.Dec.{T}
use lib.ListN.{get_elem?}
use Rattle.covering.specs.Lists.{◌∈◌, Distinct}
use Rattle.covering.specs.Term.{Term, Atom, Question, terms, Sub, on_term, on_atom, on_question, var, con, Below}
use Rattle.covering.proofs.Terms.{con_inj, atom_path, terms_in, terms_out}
use Rattle.covering.specs.Rule.{Rule, Unknown}
use Rattle.unification.specs.Classes.{unify, Kernel, Equivalence, HoldsPairs}
use Rattle.unification.specs.Choice.{Choice, left, sent, pairing}
use Rattle.unification.specs.Step.{move, guarded, valid, rewriting}
use Rattle.unification.specs.Published.{scope, Partition, Selects, NonSeparating, PieceUnifier, beta, Together}
use Rattle.unification.specs.Published.{PutsOn}
use Rattle.unification.specs.Published.{MergesNoMore}
use Rattle.unification.proofs.Classes.{unify_sound, least_equivalence, idempotent}
use Rattle.unification.proofs.Choices.{sent_in, terms_sent}
use Rattle.unification.proofs.Hits.{hits, place_of, left_without, Hit, hit_there, HitBy, hit_by, puts_pairing}
use Rattle.unification.proofs.Moved.{moved_apart}
use Rattle.unification.proofs.Puts.{puts_more}
use Rattle.unification.proofs.Valid.{valid_alone, valid_varlike, unknown_test}

-- in one class, both being terms of S
abbrev pub Within : List Term → Sub → Term → Term → Type 0
Within S σ t v = (t ∈ S) × (v ∈ S) × Kernel σ t v

-- equal, or in one class as terms of S
SameOrWithin : List Term → Sub → Term → Term → Type 0
SameOrWithin S σ t v = (t ≡ v) ⊎ Within S σ t v

same_or_within_equivalence : (S : List Term) (σ : Sub) → Equivalence (SameOrWithin S σ)
unfolding SameOrWithin
same_or_within_equivalence S σ = record { same = λ t. inl refl; turn = turn; chain = chain }
  where
    turn : (t v : Term) → SameOrWithin S σ t v → SameOrWithin S σ v t
    turn t v (inl e) = inl (sym e)
    turn t v (inr h) = inr (h.1, h.0, sym h.2)

    chain : (t v w : Term) → SameOrWithin S σ t v → SameOrWithin S σ v w → SameOrWithin S σ t w
    chain t v w (inl e) (inl f) = inl (e ∙ f)
    chain t v w (inl e) (inr h) = inr (Memᴰ.cast e h.0, h.1, ap (on_term σ) e ∙ h.2)
    chain t v w (inr h) (inl f) = inr (h.0, Memᴰ.cast (sym f) h.1, h.2 ∙ ap (on_term σ) f)
    chain t v w (inr h) (inr g) = inr (h.0, g.1, h.2 ∙ g.2)

within_partition : (S : List Term) (σ : Sub) → Partition S (Within S σ)
within_partition S σ =
    record {
      within = λ t v h. (h.0, h.1);
      same = λ t m. (m, m, refl);
      turn = λ t v h. (h.1, h.0, sym h.2);
      chain = λ t v w h g. (h.0, g.1, h.2 ∙ g.2);
    }

puts_atom : (σ : Sub) (a b : Atom) → PutsOn (Kernel σ) a b → on_atom σ a ≡ on_atom σ b
puts_atom σ a b h = atom_path h.relations (go a.args b.args h.places)
  where
    go : (ts us : List Term) → Together (Kernel σ) ts us → map (on_term σ) ts ≡ map (on_term σ) us
    go [] [] x = refl
    go [] (u ∷ us) x = absurd x
    go (t ∷ ts) [] x = absurd x
    go (t ∷ ts) (u ∷ us) x = ap₂ ◌∷◌ x.0 (go ts us x.1)

-- a valid choice of a question in which no two atoms are equal
module _ (k : ℕ) (r : Rule) (Q : Question) (below : Below k Q) (distinct : Distinct Q) (ds : Choice) (σ : Sub)
    (found : unify (pairing ds Q (move k r).head) var ≡ some σ)
    (ok : T (valid σ (left ds Q) (move k r)))
  where
    abbrev r' : Rule
    r' = move k r

    abbrev A : Question
    A = sent ds Q

    abbrev H : Question
    H = hits ds Q r'.head

    abbrev S : List Term
    S = scope A H

    solved : HoldsPairs (Kernel σ) (pairing ds Q r'.head)
    solved = (unify_sound (pairing ds Q r'.head) var σ found).holds

    hit_of : (a : Atom) → a ∈ A → Hit σ ds Q r'.head a
    hit_of a m = hit_there σ ds Q r'.head distinct solved a m

    back_of : (b : Atom) → b ∈ H → HitBy σ ds Q r'.head b
    back_of b m = hit_by σ ds Q r'.head solved b m

    -- the terms of a sent atom and of its head atom are in the scope
    puts_within : (a : Atom) → a ∈ A → (b : Atom) → b ∈ H → PutsOn (Kernel σ) a b → PutsOn (Within S σ) a b
    puts_within a m b n h =
        puts_more
        (λ t v x y e.
        (Memᴰ.append_left (terms H) (terms_in A m x), Memᴰ.append_right (terms A) (terms_in H n y), e))
        h

    near_puts : (a b : Atom) → a ∈ A → get_elem? r'.head (place_of ds Q a) ≡ some b → PutsOn (SameOrWithin S σ) a b
    unfolding SameOrWithin
    near_puts a b m e =
        let x = hit_of a m in
        let same : x.atom ≡ b = some-injective x.atom b (sym x.at ∙ e) in
        subst (λ (c : Atom). PutsOn (SameOrWithin S σ) a c) same
        (puts_more (λ t v y z h. inr h) (puts_within a m x.atom x.is_hit x.puts))

    -- a term is what stands for it, or both are in the scope
    near : (t : Term) → SameOrWithin S σ (on_term σ t) t
    near t =
        (least_equivalence (pairing ds Q r'.head) σ found).1 (SameOrWithin S σ)
        (same_or_within_equivalence S σ)
        (puts_pairing (SameOrWithin S σ) (same_or_within_equivalence S σ) σ ds Q r'.head
        distinct solved near_puts)
        (on_term σ t) t (idempotent (pairing ds Q r'.head) σ found t)

    selects_within : Selects S (Within S σ) σ
    unfolding SameOrWithin
    selects_within =
        record {
          chosen = λ t m. chosen t m (near t);
          alike = λ t v h. h.2;
          others = λ n o. others n o (near (var n));
        }
      where
        chosen : (t : Term) → t ∈ S → SameOrWithin S σ (on_term σ t) t → Within S σ (on_term σ t) t
        chosen t m (inl e) = (Memᴰ.cast e m, m, idempotent (pairing ds Q r'.head) σ found t)
        chosen t m (inr h) = h

        others : (n : ℕ) → ¬ (var n ∈ S) → SameOrWithin S σ (σ n) (var n) → σ n ≡ var n
        others n o (inl e) = e
        others n o (inr h) = absurd (o h.1)

    alone : (z : ℕ) → Unknown r' z → (t : Term) → t ∈ guarded (left ds Q) r' → Kernel σ t (var z) → t ≡ var z
    alone z u t n e = valid_alone r' (left ds Q) σ ok (var z) u.in_head (unknown_test r' z u) t n e

    head_term : (t : Term) → t ∈ terms H → t ∈ terms r'.head
    head_term t n = let x = terms_out H n in terms_in r'.head (back_of x.0 x.1).within x.2

    not_separating : (z : ℕ) → Unknown r' z → (t : Term) → Kernel σ t (var z) → t ∈ terms A → NonSeparating Q A t
    not_separating z u (con c) e n =
        absurd (valid_varlike r' (left ds Q) σ ok (var z) u.in_head (unknown_test r' z u) c (sym e))
    not_separating z u (var x) e n =
        record {
          number = x;
          is = refl;
          in_unified = n;
          not_left = λ m. never_left (subst (λ (B : Question). var x ∈ terms B) (left_without ds Q distinct) m);
        }
      where
        never_left : var x ∈ terms (left ds Q) → ⊥
        never_left m =
            moved_apart k Q r.head below x (terms_sent ds Q (var x) n)
            (Memᴰ.cast (alone z u (var x) (Memᴰ.append_left _ m) e) u.in_head)

    others_of : (z : ℕ) → Unknown r' z → (t : Term) → Kernel σ t (var z) → (t ∈ terms A) ⊎ (t ∈ terms H)
        → (t ≡ var z) ⊎ NonSeparating Q A t
    others_of z u t e (inl n) = inr (not_separating z u t e n)
    others_of z u t e (inr n) =
        inl
        (alone z u t
        (Memᴰ.append_right (terms (left ds Q)) (Memᴰ.append_right (terms r'.body) (head_term t n)))
        e)

    -- the piece-unifier of the choice: the atoms that it sends, the head atoms that it sends them to, its classes
    pub choice_piece : (a : Atom) → a ∈ A → PieceUnifier Q r'
    choice_piece a m =
        record {
          unified = A;
          part = H;
          P = Within S σ;
          u = σ;
          one = a;
          one_in = m;
          of_question = sent_in ds Q;
          of_head = λ b n. (back_of b n).within;
          partition = within_partition S σ;
          admissible = λ c d h. con_inj h.2;
          unknowns = λ z n u t h. others_of z u t h.2 (Memᴰ.append_cases (terms A) h.0);
          selects = selects_within;
          onto_head = λ b n.
              let x = hit_of b n in
              Memᴰ.cast (puts_atom σ b x.atom x.puts) (Memᴰ.map (on_atom σ) x.is_hit);
          onto_question = λ b n.
              let x = back_of b n in
              Memᴰ.cast (sym (puts_atom σ x.atom b x.puts)) (Memᴰ.map (on_atom σ) x.is_sent);
        }

    pub choice_no_more : (a : Atom) (m : a ∈ A) → MergesNoMore (choice_piece a m) (place_of ds Q)
    unfolding choice_piece
    choice_no_more a m =
        record {
          paired = λ b n.
              let x = hit_of b n in
              record {
                atom = x.atom;
                at = x.at;
                in_part = x.is_hit;
                puts = puts_within b n x.atom x.is_hit x.puts;
              };
          least = λ E eq f t v h.
              (least_equivalence (pairing ds Q r'.head) σ found).1 E eq
              (puts_pairing E eq σ ds Q r'.head distinct solved f) t v h.2;
        }

    pub choice_beta : (a : Atom) (m : a ∈ A) → beta (choice_piece a m) ≡ rewriting σ (left ds Q) r'
    unfolding choice_piece
    choice_beta a m = ap (λ (B : Question). on_question σ (B ++ r'.body)) (left_without ds Q distinct)

    pub choice_unified : (a : Atom) (m : a ∈ A) → (choice_piece a m).unified ≡ A
    unfolding choice_piece
    choice_unified a m = refl
