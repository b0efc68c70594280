-- The builder lists the rewritings, in order and with their numbers (`builder_lists`), and its first result is
-- `next`'s (`next_built`). A prefix whose choices all lie before the start gives nothing (`first_skips`). Assumes
-- nothing.
use mathlib.Core.Path.{◌≡◌, refl, sym, ◌∙◌, ap, ap₂}
use mathlib.Core.Bool.{Bool, true, false, cond, ◌||◌}
use mathlib.Core.List.{List, [], ◌∷◌, ◌++◌, map, append-nil}
use mathlib.Core.Option.{Option, some, none}
use Prim.Native.Nat.{ℕ, zero, suc, ◌+◌, ◌<◌, ◌≤◌, ◌*◌}
use native.Mathlib.Nat.{suc-mul, zero-mul, mul-one, mul_assoc, mul-le-mul_right, pow-zero}
use native.Mathlib.Omega.{arith}
use lib.Dec.{leb, leb→le}
use lib.ListN.{length}
use lib.Seq.{append_snoc}
use Rattle.covering.specs.Lists.{keep, head, push, bind, first_of, collect, numbers}
use Rattle.covering.specs.Term.{Atom, Question, Sub, var}
use Rattle.covering.proofs.Tests.{not_of, cond_no}
use Rattle.covering.specs.Rule.{Rule}
use Rattle.unification.specs.Classes.{unify}
use Rattle.unification.specs.Choice.{Choice, count, number, choices, some_sent, left, to_head, pairing}
use Rattle.unification.specs.Step.{move, judge, step_apart, step, label, listed, from, next}
use Rattle.lister.specs.Build.{Builder, by_digit, list_of, more, build, first, since, builder, first_by_digit}
use Rattle.unification.proofs.Collected.{gather_same, passing, collect_same, collect_none, collect_keep, keep_collect}
use Rattle.unification.proofs.Collected.{collect_gather, collect_map, head_gather, first_of_same, first_of_none}
use Rattle.unification.proofs.Numbers.{count_suc}
use Rattle.unification.proofs.Extending.{unify_append}
use Rattle.covering.proofs.Lists.{numbers_below}
use Rattle.lister.proofs.NumberFrom.{number_from, number_from_lem, sends_some}

module _ {C X : Type 0} (B : Builder C X) where
  -- the classes with all that a choice sends put in
  abbrev pub meet_all : Choice → Question → C → Option C
  meet_all [] q σ = some σ
  meet_all (d ∷ ds) [] σ = some σ
  meet_all (zero ∷ ds) (a ∷ q) σ = meet_all ds q σ
  meet_all (suc d ∷ ds) (a ∷ q) σ = bind (B.meet d a σ) (meet_all ds q)

  -- what the digit d of the next atom gives
  abbrev pub list_at : ℕ → Question → Bool → Atom → Question → C → ℕ → List X
  list_at w L b a q σ d =
      by_digit d (build B (more B w d) (L ++ a ∷ []) b q σ)
      (λ e. list_of (B.meet e a σ) (λ τ. build B (more B w d) L true q τ))

  -- what the digits that are still to come give
  abbrev given : ℕ → Question → Bool → Question → C → Choice → Option X
  given w L b q σ ds =
      cond (b || some_sent ds)
      (bind (meet_all ds q σ) (B.verdict (number_from B.heads w ds) (L ++ left ds q)))
      none

  leave_given : (w : ℕ) (L : Question) (b : Bool) (a : Atom) (q : Question) (σ : C) (ds : Choice)
      → given w L b (a ∷ q) σ (0 ∷ ds) ≡ given (more B w 0) (L ++ a ∷ []) b q σ ds
  leave_given w L b a q σ ds =
      ap
      (λ (A : Question).
      cond (b || some_sent ds)
      (bind (meet_all ds q σ) (B.verdict (number_from B.heads (more B w 0) ds) A)) none)
      (sym (append_snoc L a (left ds q)))

  send_given : (w : ℕ) (L : Question) (b : Bool) (a : Atom) (q : Question) (σ : C) (e : ℕ) (ds : Choice)
      → given w L b (a ∷ q) σ (suc e ∷ ds) ≡ bind (B.meet e a σ) (λ τ. given (more B w (suc e)) L true q τ ds)
  send_given w L b a q σ e ds =
      ap (λ (c : Bool). cond c (bind (bind (B.meet e a σ) (meet_all ds q)) j) none) (sends_some b e ds)
      ∙ go (B.meet e a σ)
    where
      j : C → Option X
      j = B.verdict (number_from B.heads (more B w (suc e)) ds) (L ++ left ds q)

      go : (o : Option C) → bind (bind o (meet_all ds q)) j ≡ bind o (λ τ. given (more B w (suc e)) L true q τ ds)
      go none = refl
      go (some τ) = refl

  nothing_to_go : (w : ℕ) (L : Question) (σ : C) (b : Bool)
      → push (cond b (B.verdict w L σ) none) [] ≡ push (cond (b || false) (B.verdict w (L ++ []) σ) none) []
  nothing_to_go w L σ true = ap (λ (A : Question). push (B.verdict w A σ) []) (sym (append-nil L))
  nothing_to_go w L σ false = refl

  pub build_lists : (q : Question) (w : ℕ) (L : Question) (b : Bool) (σ : C)
      → build B w L b q σ ≡ collect (given w L b q σ) (choices B.heads (length q))
  unfolding build
  build_lists [] w L b σ = nothing_to_go w L σ b
  build_lists (a ∷ q) w L b σ =
      gather_same _ _ (numbers 0 (suc B.heads)) (each (λ w' L' b' τ. build_lists q w' L' b' τ))
      ∙ sym (collect_gather (given w L b (a ∷ q) σ) (λ d. map (λ ds. d ∷ ds) rest) (numbers 0 (suc B.heads)))
    where
      rest : List Choice
      rest = choices B.heads (length q)

      Below : Type 0
      Below =
          (w' : ℕ) (L' : Question) (b' : Bool) (τ : C)
          → build B w' L' b' q τ ≡ collect (given w' L' b' q τ) rest

      sent_on : (w' : ℕ) (o : Option C) → Below
          → list_of o (λ τ. build B w' L true q τ) ≡ collect (λ ds. bind o (λ τ. given w' L true q τ ds)) rest
      sent_on w' none below = sym (collect_none rest)
      sent_on w' (some τ) below = below w' L true τ

      each : Below → (d : ℕ) → list_at w L b a q σ d ≡ collect (given w L b (a ∷ q) σ) (map (λ ds. d ∷ ds) rest)
      each below zero =
          below (more B w 0) (L ++ a ∷ []) b σ
          ∙ sym
          (collect_map (given w L b (a ∷ q) σ) (λ ds. 0 ∷ ds) rest
          ∙ collect_same _ _ rest (λ ds. leave_given w L b a q σ ds))
      each below (suc e) =
          sent_on (more B w (suc e)) (B.meet e a σ) below
          ∙ sym
          (collect_map (given w L b (a ∷ q) σ) (λ ds. suc e ∷ ds) rest
          ∙ collect_same _ _ rest (λ ds. send_given w L b a q σ e ds))

  -- a whole choice, and one with atoms to go: what a program that refines the builder goes through
  pub first_whole : (w : ℕ) (L : Question) (b : Bool) (σ : C) → first B w L b [] σ ≡ cond b (B.verdict w L σ) none
  unfolding first
  first_whole w L b σ = refl

  pub first_digits : (w : ℕ) (L : Question) (b : Bool) (a : Atom) (q : Question) (σ : C)
      → first B w L b (a ∷ q) σ ≡ first_of (first_by_digit B w L b a q σ) (numbers 0 (suc B.heads))
  unfolding first
  first_digits w L b a q σ = refl

  -- the first result is the first of the list
  head_pushed : (o : Option X) → head (push o []) ≡ o
  head_pushed none = refl
  head_pushed (some x) = refl

  pub first_head : (q : Question) (w : ℕ) (L : Question) (b : Bool) (σ : C)
      → head (build B w L b q σ) ≡ first B w L b q σ
  unfolding build first
  first_head [] w L b σ = head_pushed (cond b (B.verdict w L σ) none)
  first_head (a ∷ q) w L b σ =
      head_gather (list_at w L b a q σ) (numbers 0 (suc B.heads))
      ∙ first_of_same _ (first_by_digit B w L b a q σ) (numbers 0 (suc B.heads))
      (λ d m. each (λ w' L' b' τ. first_head q w' L' b' τ) d)
    where
      Below : Type 0
      Below = (w' : ℕ) (L' : Question) (b' : Bool) (τ : C) → head (build B w' L' b' q τ) ≡ first B w' L' b' q τ

      sent_on : (w' : ℕ) (o : Option C) → Below
          → head (list_of o (λ τ. build B w' L true q τ)) ≡ bind o (λ τ. first B w' L true q τ)
      sent_on w' none below = refl
      sent_on w' (some τ) below = below w' L true τ

      each : Below → (d : ℕ) → head (list_at w L b a q σ d) ≡ first_by_digit B w L b a q σ d
      each below zero = below (more B w 0) (L ++ a ∷ []) b σ
      each below (suc e) = sent_on (more B w (suc e)) (B.meet e a σ) below

  -- skipping: the choices with prefix w have numbers below (w + 1)(h + 1)^m, m digits being still to come
  pub first_skips : (start : ℕ) → ((n : ℕ) (L : Question) (σ : C) → n < start → B.verdict n L σ ≡ none)
      → (q : Question) (w : ℕ) (L : Question) (b : Bool) (σ : C) → suc w * count B.heads (length q) ≤ start
      → first B w L b q σ ≡ none
  unfolding first
  first_skips start early [] w L b σ h = go b
    where
      low : w < start
      low =
          let one : count B.heads 0 ≡ 1 = pow-zero (suc B.heads) in
          let e : suc w * count B.heads 0 ≡ suc w * 1 = ap (λ (x : ℕ). suc w * x) one in
          let f : suc w * 1 ≡ suc w = mul-one (suc w) in
          omega arith

      go : (b : Bool) → cond b (B.verdict w L σ) none ≡ none
      go true = early w L σ low
      go false = refl
  first_skips start early (a ∷ q) w L b σ h =
      first_of_same (first_by_digit B w L b a q σ) (λ d. none) (numbers 0 (suc B.heads)) (λ d m.
      each d (within d (numbers_below 0 (suc B.heads) d m))
      (λ w' L' b' τ. first_skips start early q w' L' b' τ))
      ∙ first_of_none (numbers 0 (suc B.heads))
    where
      c : ℕ
      c = count B.heads (length q)

      -- the prefix with one digit more has its choices within
      within : (d : ℕ) → d < 0 + suc B.heads → suc (more B w d) * c ≤ start
      within d k =
          let one : suc w * suc B.heads ≡ w * suc B.heads + suc B.heads = suc-mul w (suc B.heads) in
          let two : suc (more B w d) ≤ suc w * suc B.heads = omega arith in
          let three : suc (more B w d) * c ≤ suc w * suc B.heads * c = mul-le-mul_right c two in
          let four : suc w * suc B.heads * c ≡ suc w * (suc B.heads * c) =
          mul_assoc (suc w) (suc B.heads) c in
          let five : suc w * count B.heads (suc (length q)) ≡ suc w * (suc B.heads * c) =
          ap (λ (x : ℕ). suc w * x) (count_suc B.heads (length q)) in
          omega arith

      Below : Type 0
      Below = (w' : ℕ) (L' : Question) (b' : Bool) (τ : C) → suc w' * c ≤ start → first B w' L' b' q τ ≡ none

      sent_on : (w' : ℕ) (o : Option C) → suc w' * c ≤ start → Below → bind o (λ τ. first B w' L true q τ) ≡ none
      sent_on w' none k below = refl
      sent_on w' (some τ) k below = below w' L true τ k

      each : (d : ℕ) → suc (more B w d) * c ≤ start → Below → first_by_digit B w L b a q σ d ≡ none
      each zero k below = below (more B w 0) (L ++ a ∷ []) b σ k
      each (suc e) k below = sent_on (more B w (suc e)) (B.meet e a σ) k below

-- the verdict of `builder` and of `table_builder` gives nothing before its start
pub since_early : {X : Type 0} (n c : ℕ) (o : Option X) → c < n → since n c o ≡ none
since_early n c o h =
    cond_no (leb n c) (label c o) none (not_of (leb n c) (λ t. let k : n ≤ c = leb→le n c t in omega arith))

-- one-step rewritings
module _ (k : ℕ) (r : Rule) (n : ℕ) where
  abbrev H : Question
  H = (move k r).head

  meet_pairing : (ds : Choice) (q : Question) (σ : Sub) → meet_all (builder k r n) ds q σ ≡ unify (pairing ds q H) σ
  meet_pairing [] q σ = refl
  meet_pairing (d ∷ ds) [] σ = refl
  meet_pairing (zero ∷ ds) (a ∷ q) σ = meet_pairing ds q σ
  meet_pairing (suc d ∷ ds) (a ∷ q) σ =
      go (unify (to_head H d a) σ) (λ τ. meet_pairing ds q τ)
      ∙ sym (unify_append (to_head H d a) (pairing ds q H) σ)
    where
      go : (o : Option Sub) → ((τ : Sub) → meet_all (builder k r n) ds q τ ≡ unify (pairing ds q H) τ)
          → bind o (meet_all (builder k r n) ds q) ≡ bind o (λ τ. unify (pairing ds q H) τ)
      go none below = refl
      go (some τ) below = below τ

  -- the verdict with its number, from n on
  late_label : (c : ℕ) (b : Bool) (o : Option Question) → leb n c ≡ b
      → passing (λ e. leb n e.0) (label c o) ≡ cond b (label c o) none
  late_label c true none e = refl
  late_label c false none e = refl
  late_label c true (some P) e = ap (λ (x : Bool). cond x (some (c, P)) none) e
  late_label c false (some P) e = ap (λ (x : Bool). cond x (some (c, P)) none) e

  late_bind : (c : ℕ) (o : Option Sub) (j : Sub → Option Question)
      → passing (λ e. leb n e.0) (label c (bind o j)) ≡ bind o (λ σ. since n c (j σ))
  late_bind c none j = refl
  late_bind c (some σ) j = late_label c (leb n c) (j σ) refl

  late_cond : (b : Bool) (o : Option (ℕ × Question))
      → passing (λ e. leb n e.0) (cond b o none) ≡ cond b (passing (λ e. leb n e.0) o) none
  late_cond true o = refl
  late_cond false o = refl

  -- the builder lists the rewritings from n on
  pub builder_lists : (Q : Question) → build (builder k r n) 0 [] false Q var ≡ from n (listed k r Q)
  unfolding listed step
  builder_lists Q =
      build_lists (builder k r n) Q 0 [] false var
      ∙ collect_same _ _ (choices h (length Q)) each
      ∙ sym
      (keep_collect (λ e. leb n e.0)
      (λ ds. cond (some_sent ds) (label (number h ds) (step_apart (move k r) Q ds)) none)
      (choices h (length Q)))
      ∙ ap (keep (λ e. leb n e.0))
      (sym
      (collect_keep (λ ds. label (number h ds) (step_apart (move k r) Q ds)) some_sent (choices h (length Q))))
    where
      h : ℕ
      h = length r.head

      start : (ds : Choice) → number_from h 0 ds ≡ number h ds
      start ds =
          let e : number_from h 0 ds ≡ 0 * count h (length ds) + number h ds = number_from_lem h 0 ds in
          let f : 0 * count h (length ds) ≡ 0 = zero-mul (count h (length ds)) in
          omega arith

      each : (ds : Choice)
          → given (builder k r n) 0 [] false Q var ds
          ≡ passing (λ e. leb n e.0) (cond (some_sent ds) (label (number h ds) (step_apart (move k r) Q ds)) none)
      each ds =
          ap₂
          (λ (o : Option Sub) (c : ℕ).
          cond (some_sent ds) (bind o (λ σ. since n c (judge (left ds Q) (move k r) σ))) none)
          (meet_pairing ds Q var) (start ds)
          ∙ ap (λ (o : Option (ℕ × Question)). cond (some_sent ds) o none)
          (sym (late_bind (number h ds) (unify (pairing ds Q H) var) (judge (left ds Q) (move k r))))
          ∙ sym (late_cond (some_sent ds) (label (number h ds) (step_apart (move k r) Q ds)))

  -- and its first result is the next rewriting
  pub next_built : (Q : Question) → next k r Q n ≡ first (builder k r n) 0 [] false Q var
  unfolding next
  next_built Q = ap head (sym (builder_lists Q)) ∙ first_head (builder k r n) Q 0 [] false var
