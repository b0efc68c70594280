-- `writing::union::put_member` meets its contract: the count less the answer records, then the atoms.
use native.Mathlib.Nat.{mul-le-mul_left}
use native.Mathlib.Omega.{arith}
use mathlib.Core.Path.{◌≡◌, sym, ◌∙◌, ap, ap₂, subst}
use mathlib.Core.List.{◌∷◌}
use Prim.Native.Nat.{ℕ, ◌+◌, ◌*◌, ◌-◌, ◌≤◌}
use lib.ListN.{get_or, length-set}
use Rattle.covering.specs.Lists.{◌∈◌, gather}
use Rattle.covering.specs.Term.{Question}
use Rattle.covering.specs.Record.{holding, stored, atom_bytes, atoms_at}
use Rattle.covering.specs.Buffer.{AtomsIn}
use Rattle.covering.proofs.Putting.{put_one, put_as, then}
use Rattle.writing.proofs.Members.{member_count, member_within, member_atoms}
use Rattle.writing.proofs.union.put_member.Goals as goal

pub copy_atoms-requires : goal.copy_atoms-requires
copy_atoms-requires c =
    let W = c.args.work.now in
    let i = c.args.i in
    let n = c.from.result in
    let count : get_or W i 0 ≡ n = sym c.from.ensures in
    let fewer : n * (1 + c.args.w) ≤ n * 7 = mul-le-mul_left n (omega (arith, c.requires.4)) in (
      subst (AtomsIn stored W (i + 1)) count (member_within W i c.requires.1 c.requires.0),
      λ a m.
          c.requires.3 a
          (subst (λ (A : Question). a ∈ A)
          (ap (atoms_at stored W (i + 1)) (sym count) ∙ sym (member_atoms W i c.requires.1)) m),
      simp length-set (omega (arith, c.requires.5, count)),
    )

pub returns : goal.returns
returns c =
    let a = c.args in
    let W = a.work.now in
    let count : c.from.result ≡ get_or W a.i 0 = c.from.ensures in
    let whole =
    then (put_one a.out.now a.at (get_or W a.i 0 - a.answers) (omega (arith, c.requires.5))) c.copy_atoms.ensures in
    put_as
    (ap₂ (λ (n : ℕ) (A : Question). (n - a.answers) ∷ gather (atom_bytes (holding a.w)) A)
    (sym (member_count W a.i c.requires.1))
    (member_atoms W a.i c.requires.1 ∙ ap (atoms_at stored W (a.i + 1)) (sym count)))
    whole
