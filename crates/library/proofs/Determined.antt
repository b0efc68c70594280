-- Any two results that the contract of an export allows are equal, and so is every byte that it lends back: over the
-- contract as a caller learns it. Assumes nothing.
use mathlib.Core.Path.{◌≡◌, sym, ◌∙◌}
use Rattle.exploration.proofs.Demands.{demand_1}
use Rattle.reading.proofs.Copies.{copies_determined}
use Rattle.library.proofs.rauntiko_run.Reads as run-reads
use Rattle.library.proofs.rauntiko_to_new.Reads as to-new-reads
use Rattle.library.proofs.rauntiko_to_old.Reads as to-old-reads
use Rattle.library.proofs.rauntiko_covers.Reads as covers-reads
use Rattle.library.proofs.rauntiko_kept.Reads as kept-reads

-- the number, the place and the output
pub run_determined : (κs : _) (a : _) (r s : _) (x y : _) → run-reads.Learnt κs a r x → run-reads.Learnt κs a s y
    → (r ≡ s) × (x.1.1.0.now ≡ y.1.1.0.now) × (x.1.0.now ≡ y.1.0.now)
run_determined κs a r s x y p q = (demand_1 p).determined q

-- the number and the map's buffer
pub covers_determined : (κs : _) (a : _) (r s : _) (x y : _) → covers-reads.Learnt κs a r x
    → covers-reads.Learnt κs a s y → (r ≡ s) × (x.1.1.1.0.now ≡ y.1.1.1.0.now)
covers_determined κs a r s x y p q = (p.0 ∙ sym q.0, p.1 ∙ sym q.1)

pub kept_determined : (κs : _) (a : _) (r s : _) (x y : _) → kept-reads.Learnt κs a r x → kept-reads.Learnt κs a s y
    → (r ≡ s) × (x.1.1.1.0.now ≡ y.1.1.1.0.now)
kept_determined κs a r s x y p q = (p.0 ∙ sym q.0, p.1 ∙ sym q.1)

-- the number, the place and the copy's buffer
pub to_new_determined : (κs : _) (a : _) (r s : _) (x y : _) → to-new-reads.Learnt κs a r x → to-new-reads.Learnt κs a s y
    → (r ≡ s) × (x.1.1.0.now ≡ y.1.1.0.now) × (x.1.0.now ≡ y.1.0.now)
to_new_determined κs a r s x y p q = copies_determined p q

pub to_old_determined : (κs : _) (a : _) (r s : _) (x y : _) → to-old-reads.Learnt κs a r x → to-old-reads.Learnt κs a s y
    → (r ≡ s) × (x.1.1.0.now ≡ y.1.1.0.now) × (x.1.0.now ≡ y.1.0.now)
to_old_determined κs a r s x y p q = copies_determined p q
