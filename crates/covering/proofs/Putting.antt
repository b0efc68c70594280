-- Laws of bytes put into a buffer (`specs/Put`): nothing is put, and two put one after the other. Assumes nothing.
use mathlib.Core.Path.{◌≡◌, refl, sym, ◌∙◌, ap, ap₂, subst}
use mathlib.Core.List.{List, [], ◌∷◌, ◌++◌, append_assoc}
use Prim.Native.Nat.{ℕ, ◌+◌, ◌≤◌}
use native.Mathlib.Numerals.{add-one}
use native.Mathlib.Omega.{arith}
use lib.ListN.{length, set, take, drop, length-append, length-drop, take-append-drop}
use lib.Seq.{drop-drop, take_at, drop_at, take-append-le, length-take-le, set_split}
use Rattle.covering.specs.Put.{Puts}

pub put_none : {t : List ℕ} {at : ℕ} → at ≤ length t → Puts [] t at at t
put_none {t} {at} h = record { ends = omega arith; within = h; puts = sym (take-append-drop at t) }

-- the same bytes
pub put_as : {a b t u : List ℕ} {at m : ℕ} → b ≡ a → Puts a t at m u → Puts b t at m u
put_as {a} {b} {t} {u} {at} {m} e p = subst (λ (l : List ℕ). Puts l t at m u) (sym e) p

-- one byte is stored
pub put_one : (t : List ℕ) (at b : ℕ) → at + 1 ≤ length t → Puts (b ∷ []) t at (at + 1) (set t at b)
put_one t at b h =
    record {
      ends = refl;
      within = h;
      puts =
          set_split t at b (omega arith)
          ∙ ap (λ (n : ℕ). take at t ++ b ∷ drop n t) (sym (add-one at));
    }

module _ {a t u : List ℕ} {at m : ℕ} (p : Puts a t at m u) where
  low : length (take at t) ≡ at
  low = length-take-le at t (omega (arith, p.ends, p.within))

  front : length (take at t ++ a) ≡ m
  front = length-append (take at t) a ∙ omega (arith, low, p.ends)

  split : u ≡ (take at t ++ a) ++ drop m t
  split = p.puts ∙ sym (append_assoc (take at t) a (drop m t))

  -- no byte more or less
  pub kept : length u ≡ length t
  kept =
      ap length split
      ∙ length-append (take at t ++ a) (drop m t)
      ∙ omega (arith, front, length-drop m t, p.within)

  -- one put after the other: both are put
  pub then : {b v : List ℕ} {e : ℕ} → Puts b u m e v → Puts (a ++ b) t at e v
  then {b} {v} {e} q =
      record {
        ends = omega (arith, p.ends, q.ends, length-append a b);
        within = omega (arith, q.within, kept);
        puts =
            q.puts
            ∙ ap₂ (λ (x y : List ℕ). x ++ (b ++ y)) before after
            ∙ append_assoc (take at t) a (b ++ drop e t)
            ∙ ap (λ (l : List ℕ). take at t ++ l) (sym (append_assoc a b (drop e t)));
      }
    where
      before : take m u ≡ take at t ++ a
      before = ap (take m) split ∙ take_at (take at t ++ a) (drop m t) m front

      past : drop m u ≡ drop m t
      past = ap (drop m) split ∙ drop_at (take at t ++ a) (drop m t) m front

      after : drop e u ≡ drop e t
      after =
          ap (λ (n : ℕ). drop n u) q.ends
          ∙ sym (drop-drop (length b) m u)
          ∙ ap (drop (length b)) past
          ∙ drop-drop (length b) m t
          ∙ ap (λ (n : ℕ). drop n t) (sym q.ends)

  -- the other put before it, where it starts: both are put
  pub first : {b v : List ℕ} {start : ℕ} → start ≤ at → Puts b u start at v → Puts (b ++ a) t start m v
  first {b} {v} {start} h q =
      record {
        ends = omega (arith, p.ends, q.ends, length-append b a);
        within = p.within;
        puts =
            q.puts
            ∙ ap₂ (λ (x y : List ℕ). x ++ (b ++ y)) before after
            ∙ ap (λ (l : List ℕ). take start t ++ l) (sym (append_assoc b a (drop m t)));
      }
    where
      before : take start u ≡ take start t
      before =
          ap (take start) p.puts
          ∙ take-append-le start (take at t) (a ++ drop m t) (omega (arith, low, h))
          ∙ sym (take-append-le start (take at t) (drop at t) (omega (arith, low, h)))
          ∙ ap (take start) (take-append-drop at t)

      after : drop at u ≡ a ++ drop m t
      after = ap (drop at) p.puts ∙ drop_at (take at t) (a ++ drop m t) at low
