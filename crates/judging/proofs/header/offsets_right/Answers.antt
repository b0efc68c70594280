-- The tests together, each by the sizes of the form that was found. Assumes nothing.
use mathlib.Core.Path.{◌≡◌}
use mathlib.Core.Bool.{◌&&◌, ◌||◌}
use Prim.Native.Nat.{ℕ, ◌+◌, ◌*◌}
use lib.Dec.{eqb, leb}
use Rattle.reading.specs.declared.Header.{Header}
use Rattle.reading.specs.Verdict.{form_in, offsets_right}
use Rattle.judging.proofs.JudgedHeader.{is_header, is_places}
use Rattle.judging.proofs.header.offsets_right.Goals as goal

-- the tests by the header's size f and the places w that were found, and the sizes x and y of the atoms
tested : (h : Header) (size : ℕ) {f w x y : ℕ} → f ≡ (form_in h).header → w ≡ (form_in h).places
    → x ≡ (1 + w) * h.atoms → y ≡ (1 + w) * (h.atoms + 1)
    → (eqb h.table f
    && (eqb h.start (f + h.relations)
    && (leb h.start h.question
    && ((eqb h.total (h.question + x) || eqb h.total (h.question + y)) && eqb h.total size))))
    ≡ offsets_right h size
unfolding offsets_right
tested h size first places without with_it = cc

pub returns : goal.returns
returns c =
    let a = c.args in
    let told = c.told_by-form.ensures in
    tested a.h a.size (is_header _ _ told c.header-first.ensures) (is_places _ _ told c.places-w.ensures)
    c.atoms_size.ensures.0 c.atoms_size-2.ensures.0
