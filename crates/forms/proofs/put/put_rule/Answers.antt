-- `forms::put::put_rule` meets its contract: its counts, then the atoms of its body and those of its head.
use Rattle.std.proofs.Common.{◌+◌, ◌*◌, ◌≤◌, ℕ, List, length, arith}
use lib.ListN.{length-set}
use Rattle.covering.proofs.Putting.{put_as, then, kept}
use Rattle.reading.specs.Header.{BookForm}
use Rattle.reading.specs.Book.{body_count, head_count, rule_at}
use Rattle.reading.specs.Written.{rule_bytes}
use Rattle.reading.proofs.Forms.{form_known}
use Rattle.forms.proofs.Steps.{put_two}
use Rattle.forms.proofs.Rules.{rule_long, body_in, head_in, body_few, head_few, head_room, rule_put}
use Rattle.forms.proofs.put.put_rule.Goals as goal

-- the bytes that the rule gets
room : (B : List ℕ) (f : BookForm) (s at : ℕ) {m : ℕ} → at + length (rule_bytes f (rule_at B s)) ≤ m
    → at + 2 + body_count B s * (1 + f.places) + head_count B s * (1 + f.places) ≤ m
room B f s at l = omega (arith, rule_long B f s)

pub bounds-out-at : goal.bounds-out-at
bounds-out-at c = omega (arith, room _ _ _ _ c.requires.2)

pub bounds-out-at-2 : goal.bounds-out-at-2
bounds-out-at-2 c = simp length-set (omega (arith, room _ _ _ _ c.requires.2))

pub copy_atoms-end-requires : goal.copy_atoms-end-requires
copy_atoms-end-requires c = (
  body_in c.requires.0 c.requires.1 c.from-b.ensures c.from-h.ensures c.places-v.ensures,
  body_few c.requires.0 c.requires.1 c.from-b.ensures c.from-h.ensures c.places-v.ensures,
  simp length-set (rw (c.from-b.ensures, c.places-v.ensures) (omega (arith, room _ _ _ _ c.requires.2))),
)

pub overflow_add-w : goal.overflow_add-w
overflow_add-w c = omega (arith, c.requires.1, (form_known c.args.book.now).few_places)

pub overflow_mul-w : goal.overflow_mul-w
overflow_mul-w c =
    omega (arith, (head_in c.requires.0 c.requires.1 c.from-b.ensures c.from-h.ensures c.places-v.ensures).fits)

pub overflow_add-s-3 : goal.overflow_add-s-3
overflow_add-s-3 c =
    omega (arith, (head_in c.requires.0 c.requires.1 c.from-b.ensures c.from-h.ensures c.places-v.ensures).fits)

pub copy_atoms-requires : goal.copy_atoms-requires
copy_atoms-requires c = (
  head_in c.requires.0 c.requires.1 c.from-b.ensures c.from-h.ensures c.places-v.ensures,
  head_few c.requires.0 c.requires.1 c.from-b.ensures c.from-h.ensures c.places-v.ensures,
  head_room c.requires.0 c.requires.1 c.from-b.ensures c.from-h.ensures c.places-v.ensures c.args.at c.copy_atoms-end.ensures
      (simp length-set (room _ _ _ _ c.requires.2)),
)

pub returns : goal.returns
returns c =
    let a = c.args in
    put_as (rule_put c.requires.0 c.requires.1 c.from-b.ensures c.from-h.ensures c.places-v.ensures)
    (then
    (put_two a.out.now a.at (body_count a.book.now a.s) (head_count a.book.now a.s)
    (omega (arith, room _ _ _ _ c.requires.2)))
    (then c.copy_atoms-end.ensures c.copy_atoms.ensures))

pub shape_of-out : goal.shape_of-out
shape_of-out c = kept (returns c)
