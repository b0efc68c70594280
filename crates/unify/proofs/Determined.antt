-- Any two results that the contract of a public function allows are equal; of `join_atoms`, where it puts the atoms
-- together: where it cannot, its contract leaves the classes open. Not so of `some_stuck`, whose no says nothing: that
-- costs its caller time alone, and `next` is determined all the same. Assumes nothing.
use mathlib.Core.Path.{◌≡◌, sym, ◌∙◌}
use Rattle.unify.specs.InBytes.{classes_of, merged}
use Rattle.unify.proofs.joining.all_apart.Reads as all-apart-reads
use Rattle.unify.proofs.joining.join_atoms.Reads as join-atoms-reads
use Rattle.unify.proofs.validity.is_valid.Reads as is-valid-reads
use Rattle.unify.proofs.unknowns.has_unknowns.Reads as has-unknowns-reads

pub all_apart_determined : (κs : _) (a : _) (r s : _) (x y : _) → all-apart-reads.Learnt κs a r x
    → all-apart-reads.Learnt κs a s y → classes_of r ≡ classes_of s
all_apart_determined κs a r s x y p q = p ∙ sym q

pub join_atoms_determined : (κs : _) (a : _) (r s : _) (x y : _) → join-atoms-reads.Learnt κs a r x
    → join-atoms-reads.Learnt κs a s y → merged r x.1.1.1.1.0.now ≡ merged s y.1.1.1.1.0.now
join_atoms_determined κs a r s x y p q = p ∙ sym q

pub is_valid_determined : (κs : _) (a : _) (r s : _) (x y : _) → is-valid-reads.Learnt κs a r x
    → is-valid-reads.Learnt κs a s y → r ≡ s
is_valid_determined κs a r s x y p q = p ∙ sym q

pub has_unknowns_determined : (κs : _) (a : _) (r s : _) (x y : _) → has-unknowns-reads.Learnt κs a r x
    → has-unknowns-reads.Learnt κs a s y → r ≡ s
has_unknowns_determined κs a r s x y p q = p ∙ sym q
