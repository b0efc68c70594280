-- Two ways to show that something holds wherever the run comes to: what each admission keeps (`admissions_keep`), and
-- what each exploration keeps, with the rewritings that are yet to come (`explorations_keep`). Assumes nothing.
use mathlib.Core.Path.{◌≡◌}
use mathlib.Core.Bool.{not}
use mathlib.Core.List.{List, [], ◌∷◌, ◌++◌}
use mathlib.Core.Option.{some}
use Prim.Native.Nat.{ℕ, ◌≤◌}
use native.Mathlib.Omega.{arith}
use lib.Dec.{T}
use lib.ListN.{take}
use Rattle.covering.specs.Term.{Question}
use Rattle.exploration.specs.Run.{Test, Limits, State, oldest, taken_up, start, covered, appended, remaining}
use Rattle.exploration.specs.Steps.{Position, between, within, Admitted, Reaches, begins, takes_up, drops}
use Rattle.exploration.specs.Steps.{appends, stops, finishes}
use Rattle.exploration.proofs.States.{explored, taken_last, last_stays}

abbrev pub state_at : Position → State
state_at (between s n) = s
state_at (within M Ps s n) = s

abbrev pub taken_of : Position → ℕ
taken_of (between s n) = n
taken_of (within M Ps s n) = n

module _ (cov : Test) (lim : Limits) (steps : Question → List Question) (allowed : ℕ) (Q : Question) where
  -- what holds of the first state, and what taking up and admitting keep, holds of every state
  pub record KeptByAdmission (I : State → Type 0) : Type 0 where
    pub first : I (start Q)
    pub takes : (s : State) (M : Question) → oldest s ≡ some M → I s → I (taken_up s)
    pub admits : (s : State) (P : Question) → Admitted cov lim s P → I s → I (appended cov s P)

  pub admissions_keep : {I : State → Type 0} → KeptByAdmission I → {p : Position} → Reaches cov lim steps allowed Q p
      → I (state_at p)
  admissions_keep k begins = k.first
  admissions_keep k (takes_up c e l) = k.takes _ _ e (admissions_keep k c)
  admissions_keep k (drops c t) = admissions_keep k c
  admissions_keep k (appends c a t) = k.admits _ _ a (admissions_keep k c)
  admissions_keep k (stops c a t) = k.admits _ _ a (admissions_keep k c)
  admissions_keep k (finishes c) = admissions_keep k c

  -- I between explorations, J while a member is explored and these of its rewritings are yet to come
  pub record KeptByExploration (I : State → Type 0) (J : Question → List Question → State → Type 0) : Type 0 where
    pub first : I (start Q)
    pub opens : (s : State) (M : Question) → oldest s ≡ some M → I s → J M (steps M) (taken_up s)
    pub drops : (M P : Question) (Ps : List Question) (s : State) → T (covered cov P s.members) → J M (P ∷ Ps) s
        → J M Ps s
    pub appends : (M P : Question) (Ps : List Question) (s : State) → Admitted cov lim s P → T (not (cov P M))
        → J M (P ∷ Ps) s → J M Ps (appended cov s P)
    pub stops : (M P : Question) (Ps : List Question) (s : State) → Admitted cov lim s P → T (cov P M)
        → J M (P ∷ Ps) s → I (appended cov s P)
    pub closes : (M : Question) (s : State) → J M [] s → I s

  abbrev pub At : (State → Type 0) → (Question → List Question → State → Type 0) → Position → Type 0
  At I J (between s n) = I s
  At I J (within M Ps s n) = J M Ps s

  pub explorations_keep : {I : State → Type 0} {J : Question → List Question → State → Type 0} → KeptByExploration I J
      → {p : Position} → Reaches cov lim steps allowed Q p → At I J p
  explorations_keep k begins = k.first
  explorations_keep k (takes_up c e l) = k.opens _ _ e (explorations_keep k c)
  explorations_keep k (drops c t) = k.drops _ _ _ _ t (explorations_keep k c)
  explorations_keep k (appends c a t) = k.appends _ _ _ _ a t (explorations_keep k c)
  explorations_keep k (stops c a t) = k.stops _ _ _ _ a t (explorations_keep k c)
  explorations_keep k (finishes c) = k.closes _ _ (explorations_keep k c)

  -- no more than L are taken up
  pub taken_allowed : {p : Position} → Reaches cov lim steps allowed Q p → taken_of p ≤ allowed
  taken_allowed begins = omega arith
  taken_allowed (takes_up c e l) = omega arith
  taken_allowed (drops c t) = taken_allowed c
  taken_allowed (appends c a t) = taken_allowed c
  taken_allowed (stops c a t) = taken_allowed c
  taken_allowed (finishes c) = taken_allowed c

  -- the member being explored is the last of the explored ones
  abbrev LastIs : Question → List Question → State → Type 0
  LastIs M Ps s = (front : List Question) × (explored s ≡ front ++ M ∷ [])

  pub taken_is_last : {M : Question} {Ps : List Question} {s : State} {n : ℕ}
      → Reaches cov lim steps allowed Q (within M Ps s n)
      → (front : List Question) × (take s.explored s.members ≡ front ++ M ∷ [])
  taken_is_last c =
      explorations_keep {I = λ s. Unit {0}} {J = LastIs}
      (record {
        first = tt;
        opens = λ s M e u. (explored s, taken_last s M e);
        drops = λ M P Ps s t l. l;
        appends = λ M P Ps s a t l. (remaining cov P l.0, last_stays cov s P M l.0 t l.1);
        stops = λ M P Ps s a t l. tt;
        closes = λ M s l. tt;
      })
      c
