-- Any two results that a contract of this crate allows are equal. Assumes nothing.
use mathlib.Core.Path.{◌≡◌, sym, ◌∙◌, ap}
use mathlib.Core.List.{List, ◌++◌}
use Prim.Native.Nat.{ℕ}
use lib.ListN.{take, drop}
use Rattle.covering.specs.Put.{Puts}
use Rattle.printing.proofs.answer.Reads as answer-reads

-- where the bytes end, and every byte of the text
pub put_determined : {bytes before after other : List ℕ} {at end stop : ℕ} → Puts bytes before at end after
    → Puts bytes before at stop other → (end ≡ stop) × (after ≡ other)
put_determined {bytes} {before} {after} {other} {at} {end} {stop} p q = (
  same,
  p.puts ∙ ap (λ (n : ℕ). take at before ++ (bytes ++ drop n before)) same ∙ sym q.puts,
)
  where
    same : end ≡ stop
    same = p.ends ∙ sym q.ends

-- The same of the contracts themselves, as a caller learns them: `Learnt` at the lifetimes, the arguments, the result
-- and the exit.
pub answer_learnt : (κs : _) (a : _) (r s : _) (x y : _) → answer-reads.Learnt κs a r x → answer-reads.Learnt κs a s y
    → (r ≡ s) × (x.1.0.now ≡ y.1.0.now)
answer_learnt κs a r s x y p q = put_determined p q
