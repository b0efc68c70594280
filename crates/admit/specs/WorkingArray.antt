-- How the code holds a run's state: a working array that is the union as it will be written, its header yet to be
-- filled. The contracts of the exploration's own functions are said with it; that of the whole needs only `Answers`.
use Rattle.std.specs.Prelude.{◌≡◌, cond, List, [], ◌∷◌, ◌++◌, ℕ, suc, ◌+◌, ◌≤◌, ltb, length, take, drop}
use Rattle.std.specs.Prelude.{Option as Maybe, Some, None, Result, Ok, Err}
use Rattle.std.proofs.Math.Option.{Option}
use Rattle.covering.specs.Lists.{◌∈◌, first_of}
use Rattle.covering.specs.Term.{Question}
use Rattle.covering.specs.Search.{Part, first_map, covers}
use Rattle.covering.specs.Record.{stored, Fits}
use Rattle.admit.specs.declared.Extent.{Extent}
use Rattle.admit.specs.declared.Moved.{Moved}
use Rattle.admit.specs.declared.Fate.{Fate}
use Rattle.admit.specs.declared.Fate.TheVariants.{Dropped, Appended}
use Rattle.reading.specs.declared.Reason.{Reason}
use Rattle.reading.specs.Told.{number_of}
use Rattle.exploration.specs.Run.{State, Test, Limits, Why, refusal_number, dropped, admitted, stopped, admit}
use Rattle.exploration.specs.Run.{remaining}
use Rattle.exploration.specs.Union.{first_at, output_size}
use Rattle.exploration.specs.Held.{held_bytes, held_total, held_from, Standing}

-- "One working array" of an output's bytes: the members' records stand one after the other from 8 on and end at `len`;
-- `count` members, the first `front` of them explored
pub record HoldsState (W : List ℕ) (len count front : ℕ) (s : State) : Type 0 where
  pub size : length W ≡ output_size
  pub bytes : drop first_at W ≡ held_bytes s.members ++ drop len W
  pub ends : len ≡ held_total s.members
  pub members : count ≡ length s.members
  pub explored : front ≡ s.explored

-- the state that is read from a working array filled so far
abbrev pub state_in : List ℕ → Extent → State
state_in W e = record { members = held_from W first_at e.count; explored = e.front }

-- A working array in order: it holds the state that is read from it, at most 64 members of 0 to 8 atoms and an answer
-- record. What stands in it after the last member does not count.
pub record Working (W : List ℕ) (e : Extent) : Type 0 where
  pub held : HoldsState W e.len e.count e.front (state_in W e)
  pub few : e.count ≤ 64
  pub ahead : e.front ≤ e.count
  pub fits : (M : Question) → M ∈ held_from W first_at e.count → Fits stored M
  pub short : (M : Question) → M ∈ held_from W first_at e.count → length M ≤ 9

-- how many members stand before the first one that covers P: all of them where none does
unfoldable pub before_covering : Test → Question → List Question → ℕ
before_covering cov P [] = 0
before_covering cov P (M ∷ U) = let r = suc (before_covering cov P U) in cond (cov M P) 0 r

-- the number of the first one that covers P, if one does
abbrev pub first_covering : Test → Question → List Question → Maybe ℕ
first_covering cov P U = let n = before_covering cov P U in cond (ltb n (length U)) (Some n) None

-- the map by which it covers P, none where none does
unfoldable pub covered_by : Question → List Question → Option Part
covered_by P U = first_of (λ M. first_map M P) U

-- Of the n members that stand in W from `from` on, those that P does not cover stand in X from `to` on; what is before
-- `to` and after the last of the n is as it was.
pub record Remain (W : List ℕ) (from to n : ℕ) (P : Question) (X : List ℕ) (r : Moved) : Type 0 where
  pub size : length X ≡ length W
  pub lower : r.to ≤ r.from
  pub bytes : take r.to X ≡ take to W ++ held_bytes (remaining covers P (held_from W from n))
  pub ends : r.to ≡ to + length (held_bytes (remaining covers P (held_from W from n)))
  pub count : r.kept ≡ length (remaining covers P (held_from W from n))
  pub passed : r.from ≡ from + length (held_bytes (held_from W from n))
  pub after : drop r.from X ≡ drop r.from W

-- "remove every member that it covers": the members that stay, and how many of them are explored
abbrev pub rest : State → Question → State
rest s P =
    record {
      members = remaining covers P s.members;
      explored = length (remaining covers P (take s.explored s.members));
    }

-- a union with one member, unexplored
abbrev pub alone : Question → State
alone P = record { members = P ∷ []; explored = 0 }

-- the members U as they stand in the array W
pub record Stands (W : List ℕ) (U : List Question) : Type 0 where
  pub size : length W ≡ output_size
  pub standing : Standing W first_at (length U)
  pub are : held_from W first_at (length U) ≡ U

-- What becomes of the rewriting P, and of the working array W, filled to e, by these limits: X, filled to f, is the array
-- afterwards. Where the run is refused the members do not count any more.
abbrev pub FateIs : Limits → List ℕ → Extent → Question → List ℕ → Extent → Result Fate Reason → Type 0
FateIs lim W e P X f (Ok Dropped) = (admit covers lim (state_in W e) P ≡ dropped) × (X ≡ W) × (f ≡ e)
FateIs lim W e P X f (Ok Appended) = (admit covers lim (state_in W e) P ≡ admitted (state_in X f)) × Working X f
FateIs lim W e P X f (Err r) =
    (w : Why) × (admit covers lim (state_in W e) P ≡ stopped w) × (number_of r ≡ refusal_number w)

-- The same of the union s that such an array holds: t is the union afterwards. Where the run is refused it does not count
-- any more.
abbrev pub UnionFateIs : Limits → State → Question → State → Result Fate Reason → Type 0
UnionFateIs lim s P t (Ok Dropped) = (admit covers lim s P ≡ dropped) × (t ≡ s)
UnionFateIs lim s P t (Ok Appended) = admit covers lim s P ≡ admitted t
UnionFateIs lim s P t (Err r) = (w : Why) × (admit covers lim s P ≡ stopped w) × (number_of r ≡ refusal_number w)
