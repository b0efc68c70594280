-- Atoms put one after the other: those passed are put, and there is room for the next. Assumes nothing.
use mathlib.Core.Path.{◌≡◌, ◌∙◌, ap}
use mathlib.Core.List.{List, [], ◌∷◌, ◌++◌, append-nil}
use Prim.Native.Nat.{ℕ, ◌+◌, ◌*◌, ◌≤◌, ◌<◌}
use native.Mathlib.Omega.{arith}
use native.Mathlib.Nat.{mul-le-mul_right}
use lib.ListN.{length}
use Rattle.covering.specs.Lists.{gather}
use Rattle.covering.specs.Record.{holding, atoms_at, atom_bytes}
use Rattle.covering.specs.Put.{Puts}
use Rattle.covering.proofs.Lengths.{atoms_long, count_atoms}
use Rattle.covering.proofs.Lists.{gather_append}
use Rattle.covering.proofs.Putting.{put_none, put_as, then, kept}
use Rattle.records.proofs.Onward.{nth, passed_none, passed_more}

module _ (B : List ℕ) (i w v : ℕ) (t : List ℕ) (at : ℕ) where
  -- the bytes of the first k atoms, with v places each
  abbrev pub bytes : ℕ → List ℕ
  bytes k = gather (atom_bytes (holding v)) (atoms_at (holding w) B i k)

  pub none_put : at ≤ length t → Puts (bytes 0) t at at t
  none_put h = put_as (ap (gather (atom_bytes (holding v))) (passed_none (holding w) B i)) (put_none h)

  long : (k : ℕ) → length (bytes k) ≡ k * (1 + v)
  long k =
      atoms_long (holding v) (atoms_at (holding w) B i k)
      ∙ ap (λ (n : ℕ). n * (1 + v)) (count_atoms (holding w) B k i)

  module _ (k : ℕ) {end : ℕ} {to : List ℕ} (p : Puts (bytes k) t at end to) where
    pub one_put : {after : List ℕ} {stop : ℕ} → Puts (atom_bytes (holding v) (nth (holding w) B i k)) to end stop after
        → Puts (bytes (k + 1)) t at stop after
    one_put q = put_as more (then p q)
      where
        more : bytes (k + 1) ≡ bytes k ++ atom_bytes (holding v) (nth (holding w) B i k)
        more =
            ap (gather (atom_bytes (holding v))) (passed_more (holding w) B i k)
            ∙ gather_append (atom_bytes (holding v)) (atoms_at (holding w) B i k) (nth (holding w) B i k ∷ [])
            ∙ ap (λ (l : List ℕ). bytes k ++ l) (append-nil (atom_bytes (holding v) (nth (holding w) B i k)))

    pub next_room : (n : ℕ) → k < n → at + n * (1 + v) ≤ length t → end + 1 + v ≤ length to
    next_room n lt h =
        omega (arith, h, kept p, p.ends, long k, mul-le-mul_right {m = k + 1} {n = n} (1 + v) (omega arith))
