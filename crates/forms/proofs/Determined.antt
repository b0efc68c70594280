-- Any two results that the contract of a public function allows are equal, and every byte of the output. Each theorem speaks of the contract itself, as a caller learns it: `Learnt` at the lifetimes, the arguments,
-- the result and the exit. Assumes nothing.
use mathlib.Core.Path.{◌≡◌}
use Rattle.reading.proofs.Copies.{copies_determined}
use Rattle.reading.proofs.ToldOnce.{told_once}
use Rattle.forms.proofs.copying.to_new.Reads as to-new-reads
use Rattle.forms.proofs.copying.to_old.Reads as to-old-reads

pub to_new_determined : (κs : _) (a : _) (r s : _) (x y : _) → to-new-reads.Learnt κs a r x
    → to-new-reads.Learnt κs a s y
    → (r ≡ s) × (x.1.0.now ≡ y.1.0.now)
to_new_determined κs a r s x y p q = let d = copies_determined p q in (told_once r s d.0 d.1, d.2)

pub to_old_determined : (κs : _) (a : _) (r s : _) (x y : _) → to-old-reads.Learnt κs a r x
    → to-old-reads.Learnt κs a s y
    → (r ≡ s) × (x.1.0.now ≡ y.1.0.now)
to_old_determined κs a r s x y p q = let d = copies_determined p q in (told_once r s d.0 d.1, d.2)
