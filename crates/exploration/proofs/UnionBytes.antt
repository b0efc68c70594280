-- The union's bytes: their length, and what is read back from them (`union_round`). A member that has so many answer
-- records is written as the record of its atoms less these (`written_is`). Over the number of places. Assumes nothing.
use mathlib.Core.Path.{◌≡◌, refl, sym, ◌∙◌, ap, ap₂, subst}
use mathlib.Core.List.Memᴰ
use mathlib.Core.List.{List, [], ◌∷◌, ◌++◌, append_assoc}
use Prim.Native.Nat.{ℕ, zero, suc, ◌+◌, ◌*◌, ◌/◌, ◌%◌, ◌≤◌}
use native.Mathlib.Nat.{div-add-mod', mul-le-mul_right}
use native.Mathlib.Omega.{arith}
use lib.ListN.{length, drop, length-append, length-drop}
use lib.Dec.{T}
use Rattle.covering.specs.Lists.{◌∈◌, gather}
use Rattle.covering.specs.Term.{Question}
use Rattle.covering.specs.Asking.{asking, joined, records}
use Rattle.covering.specs.Record.{holding, new_places, size, atoms_at, atom_bytes, asking_bytes, Fits, are_atoms}
use Rattle.covering.proofs.Lengths.{atoms_long}
use Rattle.covering.proofs.RoundTrip.{atoms_read, holding_apart}
use Rattle.covering.proofs.Asked.{after_length}
use Rattle.reading.specs.Word.{byte, word, word_bytes}
use Rattle.reading.proofs.Reading.{word_is}
use Rattle.exploration.specs.Union.{members_bytes, first_at, total, union_bytes, output_size}
use Rattle.exploration.specs.Union.{member_end, members_from, members_of, explored_of, total_of}
use Rattle.exploration.specs.Standing.{Counted, MemberAt, WrittenAt}
use Rattle.exploration.proofs.HeldBytes.{front, past}

-- what is known of each member: it fits a record whose atoms have w places, and it has so many answer records, in front
pub record Written (w answers : ℕ) (M : Question) : Type 0 where
  pub fits : Fits (holding w) M
  pub is : joined (asking M) ≡ M
  pub count : length M ≡ answers + length (asking M).atoms

-- a member's bytes
module _ {w answers : ℕ} {M : Question} (h : Written w answers M) where
  pub written_is : asking_bytes (holding w) (asking M) ≡ length (asking M).atoms ∷ gather (atom_bytes (holding w)) M
  unfolding asking_bytes
  written_is = ap (λ (A : Question). length (asking M).atoms ∷ gather (atom_bytes (holding w)) A) h.is

  pub written_long : length (asking_bytes (holding w) (asking M)) ≡ 1 + length M * size (holding w)
  written_long = ap length written_is ∙ omega (arith, atoms_long (holding w) M)

-- lengths
pub total_is : (w : ℕ) (U : List Question) → total w U ≡ 8 + length (members_bytes w U)
unfolding total
total_is w U = refl

pub union_length : (w : ℕ) (U : List Question) (n : ℕ) → length (union_bytes w U n) ≡ total w U
unfolding union_bytes total
union_length w U n = omega arith

-- a member of at most nine atoms, the answer record among them, takes at most 64 bytes
member_most : {w answers : ℕ} {M : Question} → w ≤ new_places → Written w answers M → length M ≤ 9
    → length (asking_bytes (holding w) (asking M)) ≤ 64
member_most {w} {answers} {M} few h short =
    let one : length M * size (holding w) ≤ 9 * size (holding w) = mul-le-mul_right (size (holding w)) short in
    omega (arith, written_long h, one)

members_most : (w answers : ℕ) (U : List Question) → w ≤ new_places → ((M : Question) → M ∈ U → Written w answers M)
    → ((M : Question) → M ∈ U → length M ≤ 9) → length (members_bytes w U) ≤ length U * 64
members_most w answers [] few h short = omega arith
members_most w answers (M ∷ U) few h short =
    rw (length-append (asking_bytes (holding w) (asking M)) (members_bytes w U))
    (omega (
      arith,
      member_most few (h M (Memᴰ.head refl)) (short M (Memᴰ.head refl)),
      members_most w answers U few (λ N x. h N (Memᴰ.tail x)) (λ N x. short N (Memᴰ.tail x)),
    ))

-- "Output room becomes 4,104 for all": 8 + 64 x 64
pub total_most : (w answers : ℕ) (U : List Question) → w ≤ new_places → ((M : Question) → M ∈ U → Written w answers M)
    → length U ≤ 64 → ((M : Question) → M ∈ U → length M ≤ 9) → total w U ≤ output_size
total_most w answers U few h most short = omega (arith, total_is w U, members_most w answers U few h short)

-- the four words, and the members after them
abbrev pub header_bytes : ℕ → List Question → ℕ → List ℕ
header_bytes w U explored =
    word_bytes (length U) ++ (word_bytes explored ++ (word_bytes first_at ++ word_bytes (total w U)))

pub union_is : (w : ℕ) (U : List Question) (explored : ℕ) → union_bytes w U explored ≡ header_bytes w U explored ++ members_bytes w U
unfolding union_bytes
union_is w U explored = refl

pub members_there : (w : ℕ) (U : List Question) (explored : ℕ) (R : List ℕ)
    → drop first_at (union_bytes w U explored ++ R) ≡ members_bytes w U ++ R
unfolding union_bytes
members_there w U explored R = refl

pub members_of_lem : (w answers : ℕ) (W : List ℕ) → members_of w answers W ≡ members_from w answers W (word W 4) (word W 0)
unfolding members_of
members_of_lem w answers W = refl

-- as many as are asked for, one and those after it, none
pub members_count : (w answers : ℕ) (W : List ℕ) (i n : ℕ) → length (members_from w answers W i n) ≡ n
unfolding members_from
members_count w answers W i zero = refl
members_count w answers W i (suc n) = ap suc (members_count w answers W (member_end w answers W i) n)

pub member_next : (w answers : ℕ) (W : List ℕ) (i n : ℕ)
    → members_from w answers W i (suc n)
    ≡ atoms_at (holding w) W (i + 1) (answers + byte W i) ∷ members_from w answers W (member_end w answers W i) n
unfolding members_from
member_next w answers W i n = refl

pub member_none : (w answers : ℕ) (W : List ℕ) (i : ℕ) → members_from w answers W i 0 ≡ []
unfolding members_from
member_none w answers W i = refl

pub written_next : (w answers : ℕ) (W : List ℕ) (i n : ℕ) → WrittenAt w answers W i (suc n)
    → MemberAt w answers W i × WrittenAt w answers W (member_end w answers W i) n
unfolding WrittenAt
written_next w answers W i n h = h

-- what a word of bytes says
word_back : (n : ℕ) → n % 256 + 256 * (n / 256) ≡ n
word_back n = omega (arith, div-add-mod' n 256)

-- Members read back from where they stand in a buffer.
module _ (w answers : ℕ) (W : List ℕ) where
  -- the first of them
  record First (i : ℕ) (M : Question) (R : List ℕ) : Type 0 where
    atoms : atoms_at (holding w) W (i + 1) (answers + byte W i) ≡ M
    stands : MemberAt w answers W i
    next : drop (member_end w answers W i) W ≡ R

  first_read : (i : ℕ) (M : Question) (R : List ℕ) → Written w answers M
      → drop i W ≡ asking_bytes (holding w) (asking M) ++ R → First i M R
  first_read i M R h e =
      record {
        atoms = ap (atoms_at (holding w) W (i + 1)) count ∙ read.0;
        stands =
            record {
              most = omega (arith, count, h.fits.most);
              atoms =
                  record {
                    fits = subst (λ (n : ℕ). i + 1 + n * size (holding w) ≤ length W) (sym count) long;
                    sound = subst (λ (n : ℕ). T (are_atoms (holding w) W (i + 1) n)) (sym count) read.1;
                  };
              is =
                  subst (Counted answers (byte W i)) (sym (ap (atoms_at (holding w) W (i + 1)) count ∙ read.0))
                  (record { records_are = records_here; atoms_are = omega (arith, count, h.count) });
            };
        next = ap (λ (k : ℕ). drop k W) end ∙ past W i (length (asking_bytes (holding w) (asking M))) (asking_bytes (holding w) (asking M)) R refl e;
      }
    where
      split : drop i W ≡ length (asking M).atoms ∷ (gather (atom_bytes (holding w)) M ++ R)
      split = e ∙ ap (λ (l : List ℕ). l ++ R) (written_is h)

      count : answers + byte W i ≡ length M
      count = omega (arith, h.count, front W i (length (asking M).atoms) (gather (atom_bytes (holding w)) M ++ R) split)

      records_here : records (asking M).answer ≡ answers
      records_here =
          omega (
            arith,
            h.count,
            ap length h.is,
            after_length (asking M).answer (asking M).atoms,
          )

      rest : drop (i + 1) W ≡ gather (atom_bytes (holding w)) M ++ R
      rest = past W i 1 (length (asking M).atoms ∷ []) (gather (atom_bytes (holding w)) M ++ R) refl split

      read : (atoms_at (holding w) W (i + 1) (length M) ≡ M) × T (are_atoms (holding w) W (i + 1) (length M))
      read = atoms_read (holding w) (holding_apart w) W (i + 1) M R h.fits.each rest

      end : member_end w answers W i ≡ i + length (asking_bytes (holding w) (asking M))
      end =
          ap (λ (n : ℕ). i + (1 + n * size (holding w))) count
          ∙ ap (λ (n : ℕ). i + n) (sym (written_long h))

      long : i + 1 + length M * size (holding w) ≤ length W
      long =
          let d = ap length split in
          omega (
            arith,
            d,
            length-drop i W,
            length-append (gather (atom_bytes (holding w)) M) R,
            atoms_long (holding w) M,
          )

  pub members_read : (i : ℕ) (U : List Question) (R : List ℕ) → ((M : Question) → M ∈ U → Written w answers M)
      → drop i W ≡ members_bytes w U ++ R → (members_from w answers W i (length U) ≡ U) × WrittenAt w answers W i (length U)
  unfolding members_from WrittenAt
  members_read i [] R h e = (refl, tt)
  members_read i (M ∷ U) R h e =
      let f =
      first_read i M (members_bytes w U ++ R) (h M (Memᴰ.head refl))
      (e ∙ append_assoc (asking_bytes (holding w) (asking M)) (members_bytes w U) R) in
      let r = members_read (member_end w answers W i) U R (λ N x. h N (Memᴰ.tail x)) f.next in
      (ap₂ ◌∷◌ f.atoms r.0, (f.stands, r.1))

-- From a union to bytes and back, whatever stands in the buffer after it.
module _ (w answers : ℕ) (U : List Question) (n : ℕ) (R : List ℕ) where
  abbrev W : List ℕ
  W = union_bytes w U n ++ R

  pub count_read : word (union_bytes w U n ++ R) 0 ≡ length U
  unfolding union_bytes
  count_read = word_is W 0 ∙ word_back (length U)

  pub explored_read : explored_of (union_bytes w U n ++ R) ≡ n
  unfolding union_bytes
  explored_read = word_is W 2 ∙ word_back n

  pub offset_read : word (union_bytes w U n ++ R) 4 ≡ 8
  unfolding union_bytes
  offset_read = word_is W 4

  pub total_read : total_of (union_bytes w U n ++ R) ≡ total w U
  unfolding union_bytes
  total_read = word_is W 6 ∙ word_back (total w U)

  members_at : drop 8 W ≡ members_bytes w U ++ R
  unfolding union_bytes
  members_at = refl

  module _ (h : (M : Question) → M ∈ U → Written w answers M) where
    pub union_round : members_of w answers (union_bytes w U n ++ R) ≡ U
    unfolding members_of
    union_round =
        ap₂ (members_from w answers W) offset_read count_read ∙ (members_read w answers W 8 U R h members_at).0

    pub union_stands : WrittenAt w answers (union_bytes w U n ++ R) 8 (length U)
    union_stands = (members_read w answers W 8 U R h members_at).1
