-- A row that a small union gives, by computation: of the members a(c0) p0(c0) and a(c1) p1(c1), in the ledger p0(c0), the
-- first gives the row of c0, by its own answer record. Assumes nothing.
use mathlib.Core.Path.{refl}
use mathlib.Core.List.Memᴰ
use mathlib.Core.List.{[], ◌∷◌}
use Prim.Native.Nat.{ℕ}
use Rattle.covering.specs.Term.{var, con, Question, on_atom}
use Rattle.covering.specs.Asking.{joined}
use Rattle.unification.specs.Examples.{at1}
use Rattle.exploration.specs.Rows.{SomeGives}

abbrev member : ℕ → Question
member n = joined (record { answer = con n ∷ []; atoms = at1 n (con n) ∷ [] })

pub own_row : SomeGives (member 0 ∷ member 1 ∷ []) (0 ∷ []) (at1 0 (con 0) ∷ [])
own_row = (
  member 0,
  Memᴰ.head refl,
  record { by = var; is = refl; sends = λ a m. Memᴰ.map (on_atom var) m },
)
