-- The map that the search finds is the first (`specs/FirstMap`), and there is no other. Assumes nothing.
use mathlib.Core.Path.{◌≡◌, refl, sym, ◌∙◌, ap, subst}
use mathlib.Core.Bool.{Bool, true, false, cond, not}
use mathlib.Core.Logic.{◌⊎◌, inl, inr}
use mathlib.Core.List.{List, [], ◌∷◌, ◌++◌}
use mathlib.Core.List.Memᴰ
use mathlib.Core.Option.{Option, none, some, some-injective}
use Prim.Native.Nat.{ℕ, zero, suc, ◌≤◌, ◌<◌}
use native.Mathlib.Omega.{arith}
use lib.Dec.{T, eqb, eqb→eq}
use Rattle.covering.specs.Lists.{◌∈◌, is_some, or_else, bind, first_of}
use Rattle.covering.specs.Term.{Term, var, con, Atom, Question, Sub, on_atom, terms, eq_term}
use Rattle.covering.specs.Covers.{Sends}
use Rattle.covering.specs.Search.{Part, nowhere, also, agree, place_term, place_terms, place_atom, find_map, first_map}
use Rattle.covering.specs.FirstMap.{nth, Allows, NotAfter, FirstMap}
use Rattle.covering.proofs.Tests.{decide, cond_yes, cond_no, none≢some, le_or_lt}
use Rattle.covering.proofs.Terms.{eq→eq_term}
use Rattle.covering.proofs.Decides.{Respects, atom_tells, atom_yields, search_complete, total, total_respects}

-- what placing terms does to the map: what was there stays, the terms' variables go somewhere, the others stay
pub record Grows (p q : Part) (ts : List Term) : Type 0 where
  pub stays : (n : ℕ) (t : Term) → p n ≡ some t → q n ≡ some t
  pub there : (n : ℕ) → var n ∈ ts → (t : Term) × (q n ≡ some t)
  pub other : (n : ℕ) → (var n ∈ ts → ⊥) → q n ≡ p n

none_grows : (p : Part) → Grows p p []
none_grows p = record { stays = λ n t e. e; there = λ n m. absurd (Memᴰ.not-nil m); other = λ n f. refl }

-- the variable of a term that is one
only : (n : ℕ) (t : Term) → var n ∈ t ∷ [] → var n ≡ t
only n t m = go (Memᴰ.cases_cons m)
  where
    go : (var n ≡ t) ⊎ (var n ∈ []) → var n ≡ t
    go (inl e) = e
    go (inr m) = absurd (Memᴰ.not-nil m)

-- nothing is placed: the term is a constant, or its variable went somewhere
kept_grows : (p : Part) (t : Term) → ((n : ℕ) → var n ≡ t → (u : Term) × (p n ≡ some u)) → Grows p p (t ∷ [])
kept_grows p t h = record { stays = λ n u e. e; there = λ n m. h n (only n t m); other = λ n f. refl }

new_grows : (p : Part) (m : ℕ) (u : Term) → p m ≡ none → Grows p (also p m u) (var m ∷ [])
new_grows p m u e =
    record {
      stays = λ n t h. old n t h (decide (eqb m n));
      there = λ n i. (u, cond_yes (eqb m n) (some u) (p n) (eq→eq_term (sym (only n (var m) i))));
      other = λ n f. apart n f (decide (eqb m n));
    }
  where
    old : (n : ℕ) (t : Term) → p n ≡ some t → T (eqb m n) ⊎ T (not (eqb m n)) → also p m u n ≡ some t
    old n t h (inl x) = absurd (none≢some (sym e ∙ ap p (eqb→eq m n x) ∙ h))
    old n t h (inr x) = cond_no (eqb m n) (some u) (p n) x ∙ h

    apart : (n : ℕ) → (var n ∈ var m ∷ [] → ⊥) → T (eqb m n) ⊎ T (not (eqb m n)) → also p m u n ≡ p n
    apart n f (inl x) = absurd (f (Memᴰ.head (ap var (sym (eqb→eq m n x)))))
    apart n f (inr x) = cond_no (eqb m n) (some u) (p n) x

-- a test that yields p or nothing
if_same : (b : Bool) (p q : Part) → cond b (some p) none ≡ some q → p ≡ q
if_same true p q e = some-injective p q e
if_same false p q e = absurd (none≢some e)

con≢var : (c n : ℕ) → var n ≡ con c → ⊥
con≢var c n e = eq→eq_term e

term_grows : (p q : Part) (t u : Term) → place_term p t u ≡ some q → Grows p q (t ∷ [])
term_grows p q (con c) u e =
    subst (λ x. Grows p x (con c ∷ [])) (if_same (eq_term (con c) u) p q e)
    (kept_grows p (con c) (λ n f. absurd (con≢var c n f)))
term_grows p q (var m) u e = go (p m) refl e
  where
    go : (o : Option Term) → p m ≡ o → agree p m u o ≡ some q → Grows p q (var m ∷ [])
    go none h f = subst (λ x. Grows p x (var m ∷ [])) (some-injective (also p m u) q f) (new_grows p m u h)
    go (some t) h f =
        subst (λ x. Grows p x (var m ∷ [])) (if_same (eq_term t u) p q f)
        (kept_grows p (var m) (λ n i. (t, ap p (eqb→eq n m (eq→eq_term i)) ∙ h)))

-- first some terms, then others
more_grows : (p q r : Part) (ts us : List Term) → Grows p q ts → Grows q r us → Grows p r (ts ++ us)
more_grows p q r ts us g h =
    record {
      stays = λ n t e. h.stays n t (g.stays n t e);
      there = λ n m. go n (Memᴰ.append_cases ts m);
      other = λ n f. h.other n (λ m. f (Memᴰ.append_right ts m)) ∙ g.other n (λ m. f (Memᴰ.append_left us m));
    }
  where
    go : (n : ℕ) → (var n ∈ ts) ⊎ (var n ∈ us) → (t : Term) × (r n ≡ some t)
    go n (inl m) = let x = g.there n m in (x.0, h.stays n x.0 x.1)
    go n (inr m) = h.there n m

terms_grow : (p q : Part) (ts us : List Term) → place_terms p ts us ≡ some q → Grows p q ts
terms_grow p q [] [] e = subst (λ x. Grows p x []) (some-injective p q e) (none_grows p)
terms_grow p q [] (u ∷ us) e = absurd (none≢some e)
terms_grow p q (t ∷ ts) [] e = absurd (none≢some e)
terms_grow p q (t ∷ ts) (u ∷ us) e = go (place_term p t u) refl e (λ r. terms_grow r q ts us)
  where
    go : (o : Option Part) → place_term p t u ≡ o → bind o (λ r. place_terms r ts us) ≡ some q
        → ((r : Part) → place_terms r ts us ≡ some q → Grows r q ts) → Grows p q (t ∷ ts)
    go none h f below = absurd (none≢some f)
    go (some r) h f below = more_grows p r q (t ∷ []) ts (term_grows p r t u h) (below r f)

pub atom_grows : (p q : Part) (a b : Atom) → place_atom p a b ≡ some q → Grows p q a.args
atom_grows p q a b e = go (decide (eqb a.rel b.rel))
  where
    r : Option Part
    r = place_terms p a.args b.args

    go : T (eqb a.rel b.rel) ⊎ T (not (eqb a.rel b.rel)) → Grows p q a.args
    go (inl x) = terms_grow p q a.args b.args (sym (cond_yes (eqb a.rel b.rel) r none x) ∙ e)
    go (inr x) = absurd (none≢some (sym (cond_no (eqb a.rel b.rel) r none x) ∙ e))

-- where the first element at which f yields anything stands
record FirstAt (f : Atom → Option Part) (C : Question) (q : Part) : Type 0 where
  place : ℕ
  atom : Atom
  stands : nth C place ≡ some atom
  yields : f atom ≡ some q
  before : (m : ℕ) (c : Atom) → m < place → nth C m ≡ some c → f c ≡ none

first_at : (f : Atom → Option Part) (C : Question) (q : Part) → first_of f C ≡ some q → FirstAt f C q
first_at f [] q e = absurd (none≢some e)
first_at f (b ∷ C) q e = go (f b) refl e (first_at f C q)
  where
    go : (o : Option Part) → f b ≡ o → or_else o (first_of f C) ≡ some q → (first_of f C ≡ some q → FirstAt f C q)
        → FirstAt f (b ∷ C) q
    go (some x) h g below =
        record { place = 0; atom = b; stands = refl; yields = h ∙ g; before = λ m c lt s. absurd (omega arith) }
    go none h g below =
        let r = below g in
        record {
          place = suc r.place;
          atom = r.atom;
          stands = r.stands;
          yields = r.yields;
          before = earlier r;
        }
      where
        earlier : (r : FirstAt f C q) (m : ℕ) (c : Atom) → m < suc r.place → nth (b ∷ C) m ≡ some c → f c ≡ none
        earlier r zero c lt s = ap f (sym (some-injective b c s)) ∙ h
        earlier r (suc m) c lt s = r.before m c (omega arith) s

-- a map that allows a sequence of candidates sends every atom to an atom
nth_in : (B : Question) (n : ℕ) (b : Atom) → nth B n ≡ some b → b ∈ B
nth_in [] n b e = absurd (none≢some e)
nth_in (c ∷ B) zero b e = Memᴰ.head (sym (some-injective c b e))
nth_in (c ∷ B) (suc n) b e = Memᴰ.tail (nth_in B n b e)

pub allows_sends : (s : Sub) (A B : Question) (c : List ℕ) → Allows s A B c → Sends s A B
allows_sends s [] B [] m a i = absurd (Memᴰ.not-nil i)
allows_sends s [] B (n ∷ c) m a i = absurd m
allows_sends s (b ∷ A) B [] m a i = absurd m
allows_sends s (b ∷ A) B (n ∷ c) m a i = go (allows_sends s A B c m.1) (Memᴰ.cases_cons i)
  where
    go : Sends s A B → (a ≡ b) ⊎ (a ∈ A) → on_atom s a ∈ B
    go rest (inl e) = Memᴰ.cast (ap (on_atom s) e) (nth_in B n (on_atom s b) m.0)
    go rest (inr j) = rest a j

-- what the search finds from p on: the first sequence that a map which does what p says allows
record Least (A B : Question) (p q : Part) : Type 0 where
  candidates : List ℕ
  sent : (s : Sub) → Respects s q → Respects s p × Allows s A B candidates
  first : (d : List ℕ) (s : Sub) → Respects s p → Allows s A B d → NotAfter candidates d
  grows : Grows p q (terms A)

search_least : (A B : Question) (p q : Part) → find_map A B p ≡ some q → Least A B p q
unfolding find_map
search_least [] B p q e = subst (Least [] B p) (some-injective p q e) here
  where
    here : Least [] B p p
    here = record { candidates = []; sent = λ s k. (k, tt); first = λ d s k m. tt; grows = none_grows p }
search_least (a ∷ A) B p q e = go (first_at f B q e) (λ r. search_least A B r q)
  where
    f : Atom → Option Part
    f b = bind (place_atom p a b) (λ r. find_map A B r)

    -- some map would go on from an earlier candidate
    earlier : (x : FirstAt f B q) (m : ℕ) (s : Sub) → Respects s p → nth B m ≡ some (on_atom s a) → Sends s A B
        → m < x.place → ⊥
    earlier x m s k there rest lt =
        let y = atom_yields s p a (on_atom s a) refl k in
        let found = search_complete A B y.part s y.respects rest in
        let none_here = x.before m (on_atom s a) lt there in
        subst (λ o. T (is_some o)) (sym (ap (λ o. bind o (λ r. find_map A B r)) y.found) ∙ none_here) found

    go : (x : FirstAt f B q) → ((r : Part) → find_map A B r ≡ some q → Least A B r q) → Least (a ∷ A) B p q
    go x below = at (place_atom p a x.atom) refl x.yields
      where
        at : (o : Option Part) → place_atom p a x.atom ≡ o → bind o (λ r. find_map A B r) ≡ some q
            → Least (a ∷ A) B p q
        at none h g = absurd (none≢some g)
        at (some r) h g =
            record {
              candidates = x.place ∷ l.candidates;
              sent = sends;
              first = order;
              grows = more_grows p r q a.args (terms A) (atom_grows p r a x.atom h) l.grows;
            }
          where
            l : Least A B r q
            l = below r g

            sends : (s : Sub) → Respects s q → Respects s p × Allows s (a ∷ A) B (x.place ∷ l.candidates)
            sends s k =
                let two = l.sent s k in
                let one = atom_tells p a x.atom r h s two.0 in
                (one.0, (x.stands ∙ ap some (sym one.1), two.1))

            order : (d : List ℕ) (s : Sub) → Respects s p → Allows s (a ∷ A) B d → NotAfter (x.place ∷ l.candidates) d
            order [] s k m = absurd m
            order (n ∷ d) s k m = compare (le_or_lt x.place n)
              where
                same : x.place ≡ n → (x.place < n) ⊎ ((x.place ≡ n) × NotAfter l.candidates d)
                same i =
                    let b : on_atom s a ≡ x.atom
                    = some-injective _ _ (sym m.0 ∙ ap (nth B) (sym i) ∙ x.stands) in
                    let y = atom_yields s p a x.atom b k in
                    let k' = subst (Respects s) (some-injective _ _ (sym y.found ∙ h)) y.respects in
                    inr (i, l.first d s k' m.1)

                compare : (x.place ≤ n) ⊎ (n < x.place)
                    → (x.place < n) ⊎ ((x.place ≡ n) × NotAfter l.candidates d)
                compare (inl le) = meet (le_or_lt n x.place)
                  where
                    meet : (n ≤ x.place) ⊎ (x.place < n)
                        → (x.place < n) ⊎ ((x.place ≡ n) × NotAfter l.candidates d)
                    meet (inl ge) = same (omega arith)
                    meet (inr lt) = inl lt
                compare (inr lt) = absurd (earlier x n s k m.0 (allows_sends s A B d m.1) lt)

-- the search's map is the first
pub first_is : (A B : Question) (p : Part) → first_map A B ≡ some p → FirstMap A B p
unfolding first_map
first_is A B p e =
    record {
      candidates = l.candidates;
      by = total p;
      allows = (l.sent (total p) (total_respects p)).1;
      first = λ d s m. l.first d s (λ n t f. absurd (none≢some f)) m;
      there = λ n i. let x = l.grows.there n i in x.1 ∙ ap some (sym (total_respects p n x.0 x.1));
      nowhere_else = λ n f. l.grows.other n f;
    }
  where
    l : Least A B nowhere p
    l = search_least A B nowhere p e
