-- `lister::leaving::put_left` meets its contract: first those of the atoms before the last, then the last, if it is left.
-- The measure is the number of atoms.
use Rattle.lister.proofs.leaving.+put_left.Given as goal

abbrev pub decreases-put_left : goal.decreases-put_left
decreases-put_left l = l.n
