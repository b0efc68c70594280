-- Any two results that the contract of a public function allows are equal. Each theorem speaks of the contract
-- itself, as a caller learns it: `Learnt` at the lifetimes, the arguments, the result and the exit. Assumes nothing.
use mathlib.Core.Path.{◌≡◌, sym, ◌∙◌}
use Rattle.cover.proofs.desk.covers.Reads as covers-reads
use Rattle.cover.proofs.desk.kept.Reads as kept-reads
use Rattle.cover.proofs.desk.keep.Reads as keep-reads
use mathlib.Core.Bool.{false}
use Rattle.cover.specs.HeldMap.{said}
use Rattle.cover.specs.Told.{number_told, map_told, which_told, kept_map_told}
use Rattle.cover.proofs.Maps.{said_yes}
use Rattle.cover.proofs.Told.{answer_same, choice_same}
use Rattle.cover.proofs.search.covers_sound.Reads as covers-sound-reads
use Rattle.cover.proofs.search.covers_on.Reads as covers-on-reads

-- the answer, with its number and its map
pub covers_determined : (κs : _) (a : _) (r s : _) (x y : _) → covers-reads.Learnt κs a r x
    → covers-reads.Learnt κs a s y → (number_told r ≡ number_told s) × (map_told r ≡ map_told s) × (r ≡ s)
covers_determined κs a r s x y p q =
    let number = p.0 ∙ sym q.0 in
    let map = p.1 ∙ sym q.1 in
    (number, map, answer_same r s number map)

pub kept_determined : (κs : _) (a : _) (r s : _) (x y : _) → kept-reads.Learnt κs a r x → kept-reads.Learnt κs a s y
    → (which_told r ≡ which_told s) × (kept_map_told r ≡ kept_map_told s) × (r ≡ s)
kept_determined κs a r s x y p q =
    let which = p.0 ∙ sym q.0 in
    let map = p.1 ∙ sym q.1 in
    (which, map, choice_same r s which map)

-- the bytes handed back, the buffer that they lie in, and where in it
pub keep_determined : (κs : _) (a : _) (r s : _) (x y : _) → keep-reads.Learnt κs a r x → keep-reads.Learnt κs a s y
    → (r.now ≡ s.now) × (r.ref_ptr ≡ s.ref_ptr)
keep_determined κs a r s x y p q = (p.bytes ∙ sym q.bytes, p.place ∙ sym q.place)

pub covers_sound_determined : (κs : _) (a : _) (r s : _) (x y : _) → covers-sound-reads.Learnt κs a r x
    → covers-sound-reads.Learnt κs a s y → r ≡ s
covers_sound_determined κs a r s x y p q = p ∙ sym q

-- whether there is a map; where there is one, where it sends each variable, and else the map's bytes
pub covers_on_determined : (κs : _) (a : _) (r s : _) (x y : _) → covers-on-reads.Learnt κs a r x
    → covers-on-reads.Learnt κs a s y
    → (r ≡ s) × (said r x.1.1.0.now ≡ said s y.1.1.0.now) × (r ≡ false → x.1.1.0.now ≡ y.1.1.0.now)
covers_on_determined κs a r s x y p q =
    let same = said_yes r _ _ p.finds ∙ sym (said_yes s _ _ q.finds) in
    (same, p.finds ∙ sym q.finds, λ e. p.back e ∙ sym (q.back (sym same ∙ e)))
