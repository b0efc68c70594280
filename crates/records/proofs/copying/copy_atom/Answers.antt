-- `records::copying::copy_atom` meets its contract. The loop's invariant: the relation and the places passed are copied.
use native.Mathlib.Omega.{arith}
use mathlib.Core.Path.{◌≡◌, refl, sym, ap, ap₂, ◌∙◌}
use mathlib.Core.List.{List, ◌++◌, append_assoc}
use Prim.Native.Nat.{ℕ, ◌+◌, ◌<◌}
use lib.ListN.{length, take, drop, set, length-set}
use lib.Seq.{paste, paste-zero, take-length}
use Rattle.covering.specs.Record.{holding, atom_at, atom_bytes}
use Rattle.covering.proofs.Slices.{paste_more}
use Rattle.covering.proofs.Lengths.{atom_long}
use Rattle.covering.proofs.Widths.{atom_byte}
use Rattle.records.proofs.copying.copy_atom.Goals as goal

pub loop-j-init : goal.loop-j-init
loop-j-init c =
    let a = c.args in
    (refl, paste-zero a.to.now a.at (atom_bytes (holding a.v) (atom_at (holding a.w) a.from.now a.i)))

pub loop-j-preserved : goal.loop-j-preserved
loop-j-preserved c =
    let a = c.args in
    let j = c.loop-j.j in
    let X = atom_bytes (holding a.v) (atom_at (holding a.w) a.from.now a.i) in
    let long : length X ≡ 1 + a.v = atom_long (holding a.v) _ in
    let here : j < 1 + a.v = c.loop-j-test.true in
    let byte = c.place_or_none.ensures ∙ sym (atom_byte a.w a.v a.from.now a.i j c.requires.0 c.requires.2 here) in (
      simp length-set (omega arith),
      ap₂ (λ (d : List ℕ) (x : ℕ). set d (a.at + j) x) c.loop-j.invariant.1 byte
          ∙ paste_more a.to.now a.at X j (a.at + j) refl (omega arith) (omega (arith, long)),
    )

pub returns : goal.returns
returns c =
    let a = c.args in
    let X = atom_bytes (holding a.v) (atom_at (holding a.w) a.from.now a.i) in
    let long : length X ≡ 1 + a.v = atom_long (holding a.v) _ in
    let end : c.loop-j.j ≡ length X = omega (arith, long) in
    let last : a.at + length X ≡ a.at + 1 + a.v = omega (arith, long) in
    record {
      ends = sym last;
      within = omega arith;
      puts =
          c.loop-j.invariant.1
          ∙ ap (paste a.to.now a.at X) end
          ∙ ap (λ (x : List ℕ). take a.at a.to.now ++ x ++ drop (a.at + length X) a.to.now) (take-length X)
          ∙ append_assoc (take a.at a.to.now) X (drop (a.at + length X) a.to.now)
          ∙ ap (λ (n : ℕ). take a.at a.to.now ++ (X ++ drop n a.to.now)) last;
    }
