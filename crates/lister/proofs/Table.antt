-- A table of representatives does what the classes do (`unify_same`), so the builder over tables gives what the
-- builder over classes gives (`table_same`), and its first result is `next`'s (`next_tabled`). Assumes nothing.
use mathlib.Core.Path.{◌≡◌, refl, sym, ◌∙◌, ap, subst, subst₂}
use mathlib.Core.Bool.{Bool, true, false, cond}
use mathlib.Core.Logic.{◌⊎◌, inl, inr}
use mathlib.Core.List.Memᴰ
use mathlib.Core.List.{List, [], ◌∷◌, ◌++◌, map}
use mathlib.Core.Option.{Option, some, none}
use Prim.Native.Nat.{ℕ, zero, suc, ◌+◌, ◌<◌, ◌≤◌, ◌*◌}
use native.Mathlib.Omega.{arith}
use lib.Dec.{eqb}
use lib.ListN.{length, length-map, get_or}
use Rattle.covering.specs.Lists.{◌∈◌, bind, first_of, numbers}
use Rattle.covering.specs.Term.{Term, Atom, Question, terms, Sub, on_term, var, con, Below}
use Rattle.covering.proofs.Terms.{terms_in, terms_out}
use Rattle.covering.specs.Rule.{Rule}
use Rattle.unification.specs.Classes.{Pair, point, join, unify}
use Rattle.unification.specs.Choice.{count, never, place_pairs, to_head}
use Rattle.unification.specs.Step.{move, guarded, judge, next}
use Rattle.unify.specs.Table.{Table, own, look, tabled, join_table, unify_table}
use Rattle.lister.specs.Build.{table_builder, Builder, more, first, since, builder, first_by_digit}
use Rattle.lister.proofs.Build.{first_whole, first_digits, first_skips, since_early, next_built}
use Rattle.unification.proofs.Collected.{first_of_same}
use Rattle.unification.proofs.Moved.{moved_below}
use Rattle.unification.proofs.Representatives.{judge_same, alike_equal}

-- the variables of a term are below k
abbrev pub In : ℕ → Term → Type 0
In k (var n) = n < k
In k (con c) = Unit {0}

-- the table of k variables holds the classes σ
pub record Agree (k : ℕ) (m : Table) (σ : Sub) : Type 0 where
  pub size : length m ≡ k
  pub entry : (n : ℕ) → n < k → get_or m n (var n) ≡ σ n

-- both fail, or both yield, the one what holds the other's
abbrev pub BothTables : {C D : Type 0} → (C → D → Type 0) → Option C → Option D → Type 0
BothTables R none none = Unit {0}
BothTables R none (some τ) = ⊥
BothTables R (some m) none = ⊥
BothTables R (some m) (some τ) = R m τ

get_or_map_in : (f : Term → Term) (m : Table) (n : ℕ) (d : Term) → n < length m → get_or (map f m) n d ≡ f (get_or m n d)
get_or_map_in f [] n d h = absurd (omega arith)
get_or_map_in f (x ∷ m) zero d h = refl
get_or_map_in f (x ∷ m) (suc n) d h = get_or_map_in f m n d (omega arith)

module _ (k : ℕ) where
  look_same : (m : Table) (σ : Sub) → Agree k m σ → (t : Term) → In k t → look m t ≡ on_term σ t
  look_same m σ a (var n) h = a.entry n h
  look_same m σ a (con c) h = refl

  map_agrees : (m : Table) (σ : Sub) (v : ℕ) (b : Term) → Agree k m σ
      → Agree k (map (point v b) m) (λ n. point v b (σ n))
  map_agrees m σ v b a =
      record {
        size = length-map m (point v b) ∙ a.size;
        entry = λ n h.
            get_or_map_in (point v b) m n (var n) (subst (λ (l : ℕ). n < l) (sym a.size) h)
            ∙ ap (point v b) (a.entry n h);
      }

  join_same : (m : Table) (σ : Sub) (a b : Term) → Agree k m σ → BothTables (Agree k) (join_table m a b) (join σ a b)
  join_same m σ (var v) (var w) h = map_agrees m σ v (var w) h
  join_same m σ (var v) (con d) h = map_agrees m σ v (con d) h
  join_same m σ (con c) (var w) h = map_agrees m σ w (con c) h
  join_same m σ (con c) (con d) h = go (eqb c d)
    where
      go : (b : Bool) → BothTables (Agree k) (cond b (some m) none) (cond b (some σ) none)
      go true = h
      go false = tt

  pub unify_same : (ps : List Pair) (m : Table) (σ : Sub) → ((p : Pair) → p ∈ ps → In k p.0 × In k p.1)
      → Agree k m σ → BothTables (Agree k) (unify_table ps m) (unify ps σ)
  unify_same [] m σ w h = h
  unify_same (p ∷ ps) m σ w h =
      go (join_table m (look m p.0) (look m p.1))
      (join σ (on_term σ p.0) (on_term σ p.1)) one
      (λ n τ. unify_same ps n τ (λ q x. w q (Memᴰ.tail x)))
    where
      here : In k p.0 × In k p.1
      here = w p (Memᴰ.head refl)

      one : BothTables (Agree k) (join_table m (look m p.0) (look m p.1)) (join σ (on_term σ p.0) (on_term σ p.1))
      one =
          subst₂
          (λ (a b : Term). BothTables (Agree k) (join_table m a b) (join σ (on_term σ p.0) (on_term σ p.1)))
          (sym (look_same m σ h p.0 here.0)) (sym (look_same m σ h p.1 here.1))
          (join_same m σ (on_term σ p.0) (on_term σ p.1) h)

      go : (o : Option Table) (q : Option Sub) → BothTables (Agree k) o q
          → ((n : Table) (τ : Sub) → Agree k n τ → BothTables (Agree k) (unify_table ps n) (unify ps τ))
          → BothTables (Agree k) (bind o (λ n. unify_table ps n)) (bind q (λ τ. unify ps τ))
      go none none s below = tt
      go none (some τ) s below = absurd s
      go (some n) none s below = absurd s
      go (some n) (some τ) s below = below n τ s

pub own_length : (i n : ℕ) → length (own i n) ≡ n
own_length i zero = refl
own_length i (suc n) = ap suc (own_length (suc i) n)

own_at : (i n x : ℕ) (d : Term) → x < n → get_or (own i n) x d ≡ var (i + x)
own_at i zero x d h = absurd (omega arith)
own_at i (suc n) zero d h = ap var (omega arith)
own_at i (suc n) (suc x) d h = own_at (suc i) n x d (omega arith) ∙ ap var (omega arith)

pub own_agrees : (k : ℕ) → Agree k (own 0 k) var
own_agrees k = record { size = own_length 0 k; entry = λ n h. own_at 0 k n (var n) h ∙ ap var (omega arith) }

-- the verdict by the table is that by the classes
pub judge_table : (k : ℕ) (m : Table) (σ : Sub) (L : Question) (r : Rule) → Agree k m σ
    → ((t : Term) → t ∈ guarded L r → In k t) → judge L r (tabled m) ≡ judge L r σ
judge_table k m σ L r a small =
    judge_same (tabled m) σ L r (alike_equal (tabled m) σ (guarded L r) (λ t n. at t (small t n)))
  where
    at : (t : Term) → In k t → on_term (tabled m) t ≡ on_term σ t
    at (var n) h = a.entry n h
    at (con c) h = refl

-- two builders that go hand in hand on atoms with a property G give the same first result
module _ {C D X : Type 0} (B : Builder C X) (E : Builder D X) (R : C → D → Type 0) (G : Atom → Type 0)
    (heads-same : B.heads ≡ E.heads)
    (meets-same : (d : ℕ) (a : Atom) (m : C) (σ : D) → G a → R m σ → BothTables R (B.meet d a m) (E.meet d a σ))
    (verdicts-same : (n : ℕ) (L : Question) (m : C) (σ : D) → ((a : Atom) → a ∈ L → G a) →
    R m σ → B.verdict n L m
    ≡ E.verdict n L σ)
  where
    more_same : (w d : ℕ) → more B w d ≡ more E w d
    more_same w d = ap (λ (h : ℕ). w * suc h + d) heads-same

    also_left : (L : Question) (a : Atom) → ((b : Atom) → b ∈ L → G b) → G a → (b : Atom) → b ∈ L ++ a ∷ [] → G b
    also_left L a f g b m = go (Memᴰ.append_cases L m)
      where
        go : (b ∈ L) ⊎ (b ∈ a ∷ []) → G b
        go (inl n) = f b n
        go (inr n) = subst G (sym (Memᴰ.eq_of_singleton n)) g

    pub first_same : (q : Question) (w : ℕ) (L : Question) (b : Bool) (m : C) (σ : D)
        → ((a : Atom) → a ∈ q → G a) → ((a : Atom) → a ∈ L → G a) → R m σ → first B w L b q m ≡ first E w L b q σ
    first_same [] w L b m σ f g k =
        first_whole B w L b m
        ∙ ap (λ (o : Option X). cond b o none) (verdicts-same w L m σ g k)
        ∙ sym (first_whole E w L b σ)
    first_same (a ∷ q) w L b m σ f g k =
        first_digits B w L b a q m
        ∙ first_of_same (first_by_digit B w L b a q m) (first_by_digit E w L b a q σ)
        (numbers 0 (suc B.heads))
        (λ d n.
        each
        (λ w' L' b' m' σ' g' k'. first_same q w' L' b' m' σ' (λ c n. f c (Memᴰ.tail n)) g' k')
        d)
        ∙ ap (λ (h : ℕ). first_of (first_by_digit E w L b a q σ) (numbers 0 (suc h))) heads-same
        ∙ sym (first_digits E w L b a q σ)
      where
        Rest : Type 0
        Rest =
            (w' : ℕ) (L' : Question) (b' : Bool) (m' : C) (σ' : D) →
            ((c : Atom) → c ∈ L' → G c) → R m' σ' → first B w' L' b' q m'
            ≡ first E w' L' b' q σ'

        sent_on : (d : ℕ) (o : Option C) (p : Option D) → BothTables R o p → Rest
            → bind o (λ τ. first B (more B w d) L true q τ) ≡ bind p (λ τ. first E (more E w d) L true q τ)
        sent_on d none none x rest = refl
        sent_on d none (some σ') x rest = absurd x
        sent_on d (some m') none x rest = absurd x
        sent_on d (some m') (some σ') x rest =
            rest (more B w d) L true m' σ' g x ∙ ap (λ (i : ℕ). first E i L true q σ') (more_same w d)

        each : Rest → (d : ℕ) → first_by_digit B w L b a q m d ≡ first_by_digit E w L b a q σ d
        each rest zero =
            rest (more B w 0) (L ++ a ∷ []) b m σ (also_left L a g (f a (Memᴰ.head refl))) k
            ∙ ap (λ (i : ℕ). first E i (L ++ a ∷ []) b q σ) (more_same w 0)
        each rest (suc e) =
            sent_on (suc e) (B.meet e a m) (E.meet e a σ)
            (meets-same e a m σ (f a (Memᴰ.head refl)) k) rest

-- the terms of the pairs of an atom and a head atom
abbrev pub Small : ℕ → List Pair → Type 0
Small k ps = (p : Pair) → p ∈ ps → In k p.0 × In k p.1

never_small : (k : ℕ) → Small k never
never_small k p (Memᴰ.head e) = subst (λ (q : Pair). In k q.0 × In k q.1) (sym e) (tt, tt)
never_small k p (Memᴰ.tail m) = absurd (Memᴰ.not-nil m)

places_small : (k : ℕ) (ts us : List Term) → ((t : Term) → t ∈ ts → In k t) → ((t : Term) → t ∈ us → In k t)
    → Small k (place_pairs ts us)
places_small k [] [] f g p m = absurd (Memᴰ.not-nil m)
places_small k [] (u ∷ us) f g p m = never_small k p m
places_small k (t ∷ ts) [] f g p m = never_small k p m
places_small k (t ∷ ts) (u ∷ us) f g p (Memᴰ.head e) =
    subst (λ (q : Pair). In k q.0 × In k q.1) (sym e)
    (f t (Memᴰ.head refl), g u (Memᴰ.head refl))
places_small k (t ∷ ts) (u ∷ us) f g p (Memᴰ.tail m) =
    places_small k ts us (λ v n. f v (Memᴰ.tail n)) (λ v n. g v (Memᴰ.tail n)) p m

pub head_small : (k : ℕ) (H : Question) (d : ℕ) (a : Atom) → ((t : Term) → t ∈ a.args → In k t)
    → ((t : Term) → t ∈ terms H → In k t) → Small k (to_head H d a)
head_small k [] d a f g p m = never_small k p m
head_small k (b ∷ H) zero a f g p (Memᴰ.head e) =
    subst (λ (q : Pair). In k q.0 × In k q.1) (sym e) (tt, tt)
head_small k (b ∷ H) zero a f g p (Memᴰ.tail m) =
    places_small k a.args b.args f (λ t n. g t (Memᴰ.append_left (terms H) n)) p m
head_small k (b ∷ H) (suc d) a f g p m = head_small k H d a f (λ t n. g t (Memᴰ.append_right b.args n)) p m

pub below_in : (k : ℕ) (A : Question) → Below k A → (t : Term) → t ∈ terms A → In k t
below_in k A f (var n) m = f n m
below_in k A f (con c) m = tt

-- a table of so many variables, if all those of the moved rule, of the atoms to go and of the left ones are below it
module _ (size k : ℕ) (r : Rule) (n : ℕ) (low_b : Below size (move k r).body) (low_h : Below size (move k r).head)
  where
    abbrev Low : Atom → Type 0
    Low a = (t : Term) → t ∈ a.args → In size t

    low_atoms : (A : Question) → Below size A → (a : Atom) → a ∈ A → Low a
    low_atoms A low a m t x = below_in size A low t (terms_in A m x)

    meets : (d : ℕ) (a : Atom) (m : Table) (σ : Sub) → Low a → Agree size m σ
        → BothTables (Agree size) (unify_table (to_head (move k r).head d a) m) (unify (to_head (move k r).head d a) σ)
    meets d a m σ g h =
        unify_same size (to_head (move k r).head d a) m σ
        (head_small size (move k r).head d a g (below_in size (move k r).head low_h)) h

    guards : (L : Question) → ((a : Atom) → a ∈ L → Low a) → (t : Term) → t ∈ guarded L (move k r) → In size t
    guards L g t m = at (Memᴰ.append_cases (terms L) m)
      where
        in_rule : (t ∈ terms (move k r).body) ⊎ (t ∈ terms (move k r).head) → In size t
        in_rule (inl x) = below_in size (move k r).body low_b t x
        in_rule (inr x) = below_in size (move k r).head low_h t x

        at : (t ∈ terms L) ⊎ (t ∈ terms (move k r).body ++ terms (move k r).head) → In size t
        at (inl x) = let y = terms_out L x in g y.0 y.1 t y.2
        at (inr x) = in_rule (Memᴰ.append_cases (terms (move k r).body) x)

    -- the builder over tables gives what the builder over classes gives
    pub table_same : (q : Question) (w : ℕ) (L : Question) (b : Bool) (m : Table) (σ : Sub) → Below size q
        → Below size L → Agree size m σ → first (table_builder k r n) w L b q m ≡ first (builder k r n) w L b q σ
    table_same q w L b m σ lowq low_l a =
        first_same (table_builder k r n) (builder k r n) (Agree size) Low refl meets
        (λ c A t τ g h. ap (since n c) (judge_table size t τ A (move k r) h (guards A g)))
        q w L b m σ (low_atoms q lowq) (low_atoms L low_l) a

    -- and its first result is the next rewriting
    pub next_tabled : (Q : Question) → Below size Q
        → next k r Q n ≡ first (table_builder k r n) 0 [] false Q (own 0 size)
    next_tabled Q low =
        next_built k r n Q
        ∙ sym (table_same Q 0 [] false (own 0 size) var low (λ i m. absurd (Memᴰ.not-nil m)) (own_agrees size))

-- a prefix whose choices all lie before the start gives nothing
pub table_skips : (k : ℕ) (r : Rule) (n : ℕ) (q : Question) (w : ℕ) (L : Question) (b : Bool) (m : Table)
    → suc w * count (length r.head) (length q) ≤ n → first (table_builder k r n) w L b q m ≡ none
table_skips k r n q w L b m h =
    first_skips (table_builder k r n) n
    (λ c L' m' early. since_early n c (judge L' (move k r) (tabled m')) early) q w L b m h

-- the table of k + j variables, where the question has fewer than k and the rule fewer than j
pub next_table : (k j : ℕ) (r : Rule) (Q : Question) (n : ℕ) → Below k Q → Below j r.body → Below j r.head
    → next k r Q n ≡ first (table_builder k r n) 0 [] false Q (own 0 (k + j))
next_table k j r Q n low_q low_b low_h =
    next_tabled (k + j) k r n (moved_below k j r.body low_b) (moved_below k j r.head low_h) Q question
  where
    question : Below (k + j) Q
    question i m = let less : i < k = low_q i m in omega arith
