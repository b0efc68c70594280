-- Any two results that the contract of a public function allows are equal. Each theorem speaks of the contract
-- itself, as a caller learns it: `Learnt` at the lifetimes, the arguments, the result and the exit. Assumes nothing.
use mathlib.Core.Path.{◌≡◌, sym, ◌∙◌}
use Rattle.forming.proofs.formed.in_form.Reads as in-form-reads
use Rattle.forming.proofs.formed.put_atom.Reads as put-atom-reads
use Rattle.forming.proofs.formed.put_on.Reads as put-on-reads
use Rattle.forming.proofs.formed.held_form.Reads as held-form-reads
use Rattle.forming.proofs.formed.add_atom.Reads as add-atom-reads
use Rattle.forming.proofs.formed.add_on.Reads as add-on-reads

pub in_form_determined : (κs : _) (a : _) (r s : _) (x y : _) → in-form-reads.Learnt κs a r x
    → in-form-reads.Learnt κs a s y → x.1.0.now ≡ y.1.0.now
in_form_determined κs a r s x y p q = p ∙ sym q

pub put_atom_determined : (κs : _) (a : _) (r s : _) (x y : _) → put-atom-reads.Learnt κs a r x
    → put-atom-reads.Learnt κs a s y → x.0.now ≡ y.0.now
put_atom_determined κs a r s x y p q = p ∙ sym q

pub put_on_determined : (κs : _) (a : _) (r s : _) (x y : _) → put-on-reads.Learnt κs a r x
    → put-on-reads.Learnt κs a s y → x.0.now ≡ y.0.now
put_on_determined κs a r s x y p q = p ∙ sym q

-- and of the functions that build a record of its own: the question is determined here, and so the bytes, by
-- `held_determined` of `records`
pub held_form_determined : (κs : _) (a : _) (r s : _) (x y : _) → held-form-reads.Learnt κs a r x
    → held-form-reads.Learnt κs a s y → r ≡ s
held_form_determined κs a r s x y p q = p ∙ sym q

pub add_atom_determined : (κs : _) (a : _) (r s : _) (x y : _) → add-atom-reads.Learnt κs a r x
    → add-atom-reads.Learnt κs a s y → x.0.now ≡ y.0.now
add_atom_determined κs a r s x y p q = p ∙ sym q

pub add_on_determined : (κs : _) (a : _) (r s : _) (x y : _) → add-on-reads.Learnt κs a r x
    → add-on-reads.Learnt κs a s y → x.0.now ≡ y.0.now
add_on_determined κs a r s x y p q = p ∙ sym q
