-- Any two results that the contract of a public function allows are equal. Each theorem speaks of the contract
-- itself, as a caller learns it: `Learnt` at the lifetimes, the arguments, the result and the exit. Assumes nothing.
use mathlib.Core.Path.{◌≡◌, sym, ◌∙◌}
use Rattle.lister.proofs.builder.next.Reads as next-reads

pub next_determined : (κs : _) (a : _) (r s : _) (x y : _) → next-reads.Learnt κs a r x → next-reads.Learnt κs a s y
    → (r ≡ s) × (x.1.1.1.1.0.now ≡ y.1.1.1.1.0.now)
next_determined κs a r s x y p q = (p.answer ∙ sym q.answer, p.room ∙ sym q.room)
