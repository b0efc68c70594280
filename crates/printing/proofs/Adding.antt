-- Laws of what is put into a text (`specs/Text`): nothing is put, two put one after the other, and what is left to put
-- on the way. Assumes nothing.
use Rattle.std.proofs.Common.{◌≡◌, List, [], ◌++◌, ℕ, ◌≤◌, length, refl, sym, ◌∙◌, ap, subst, arith}
use lib.ListN.{length-append}
use Rattle.covering.specs.Put.{Puts}
use Rattle.covering.proofs.Putting.{put_none, put_as, then as puts_then}
use Rattle.printing.specs.declared.put.Text.{Text}
use Rattle.printing.specs.Text.{HasRoom, Adds}

pub adds_none : {t : Text} → t.end ≤ length t.room.now → Adds [] t t
adds_none {t} h = record { same = refl; long = refl; puts = put_none h }

-- the same bytes
pub adds_as : {a b : List ℕ} {t u : Text} → b ≡ a → Adds a t u → Adds b t u
adds_as {a} {b} {t} {u} e p = record { same = p.same; long = p.long; puts = put_as e p.puts }

-- one put after the other: both are put
pub then : {a b : List ℕ} {t u v : Text} → Adds a t u → Adds b u v → Adds (a ++ b) t v
then {a} {b} {t} {u} {v} p q = record { same = q.same ∙ p.same; long = q.long ∙ p.long; puts = puts_then p.puts q.puts }

-- On the way: there is room for the bytes that are left to put, and once they are put, all are.
pub record Left (whole rest : List ℕ) (before now : Text) : Type 0 where
  pub room : HasRoom rest now
  pub follows : (after : Text) → Adds rest now after → Adds whole before after

-- at the start all are left
pub left_all : {whole : List ℕ} {t : Text} → HasRoom whole t → Left whole whole t t
left_all {whole} {t} h = record { room = h; follows = λ u p. p }

-- there is room for the first of them
pub left_first : {whole all : List ℕ} {before t : Text} (first rest : List ℕ) → Left whole all before t → all ≡ first ++ rest
    → HasRoom first t
left_first {whole} {all} {before} {t} first rest l e = omega (arith, l.room, ap length e, length-append first rest)

-- the first of them are put
pub left_more : {whole first rest all : List ℕ} {before t u : Text} → Left whole all before t → all ≡ first ++ rest
    → Adds first t u → Left whole rest before u
left_more {whole} {first} {rest} {all} {before} {t} {u} l e p =
    record {
      room = omega (arith, l.room, ap length e, length-append first rest, p.puts.ends, p.long);
      follows = λ v q. l.follows v (adds_as e (then p q));
    }

-- at the end none are
pub left_none : {whole rest : List ℕ} {before t : Text} → Left whole rest before t → rest ≡ [] → Adds whole before t
left_none {whole} {rest} {before} {t} l e =
    l.follows t (adds_as e (adds_none (omega (arith, l.room))))

-- what is put into a text made of a buffer stands in the buffer
pub made : {bytes W V : List ℕ} {t u : Text} → t.room.now ≡ W → t.end ≡ 0 → V ≡ u.room.now → Adds bytes t u
    → Puts bytes W 0 u.end V
made {bytes} {W} {V} {t} {u} e f g p =
    subst (λ (v : List ℕ). Puts bytes W 0 u.end v) (sym g)
    (subst (λ (w : List ℕ). Puts bytes w 0 u.end u.room.now) e
    (subst (λ (n : ℕ). Puts bytes t.room.now n u.end u.room.now) f p.puts))
