-- A written book is a list of bytes: every number in it is below 256. Assumes nothing.
use mathlib.Core.Path.{◌≡◌, refl, sym, subst}
use mathlib.Core.Logic.{◌⊎◌, inl, inr}
use mathlib.Core.List.Memᴰ
use mathlib.Core.List.{List, [], ◌∷◌, ◌++◌}
use Prim.Native.Nat.{ℕ, zero, suc, ◌<◌}
use native.Mathlib.Omega.{arith}
use lib.ListN.{length, get_or}
use Rattle.covering.specs.Lists.{◌∈◌, gather}
use Rattle.covering.specs.Term.{Term, var, con, Atom, Question}
use Rattle.covering.specs.Asking.{answer_atom, with_answer}
use Rattle.covering.specs.Record.{holding, byte_of, places_bytes, atom_bytes}
use Rattle.covering.specs.Rule.{Rule}
use Rattle.reading.specs.Word.{word_bytes}
use Rattle.reading.specs.Header.{BookForm}
use Rattle.reading.specs.Book.{Book}
use Rattle.reading.specs.Written.{atoms_bytes, rule_bytes, rules_bytes}
use Rattle.reading.specs.Written.{tenth_words, header_words, header_bytes, book_bytes, AreBytes, BookTerm}
use Rattle.reading.specs.Written.{BookAtom, BookRule, BookFits}
use Rattle.reading.proofs.Forms.{FormKnown}
use Rattle.reading.proofs.WordBytes.{low_byte, high_byte}
use Rattle.reading.proofs.WrittenHeader.{OneForm}
use Rattle.reading.proofs.WrittenSize.{form_is_known, total_most}

-- what holds of each number of a list
abbrev Each : (ℕ → Type 0) → List ℕ → Type 0
Each P l = (x : ℕ) → x ∈ l → P x

abbrev Small : ℕ → Type 0
Small x = x < 256

module _ (P : ℕ → Type 0) where
  each_none : Each P []
  each_none x m = absurd (Memᴰ.not-nil m)

  each_more : {y : ℕ} {l : List ℕ} → P y → Each P l → Each P (y ∷ l)
  each_more {y} {l} p f x m = go (Memᴰ.cases_cons m)
    where
      go : (x ≡ y) ⊎ (x ∈ l) → P x
      go (inl e) = subst P (sym e) p
      go (inr n) = f x n

  each_both : (l : List ℕ) {k : List ℕ} → Each P l → Each P k → Each P (l ++ k)
  each_both l {k} f g x m = go (Memᴰ.append_cases l m)
    where
      go : (x ∈ l) ⊎ (x ∈ k) → P x
      go (inl n) = f x n
      go (inr n) = g x n

each_of : {A : Type 0} (f : A → List ℕ) (xs : List A) → ((x : A) → x ∈ xs → Each Small (f x)) → Each Small (gather f xs)
each_of f [] h = each_none Small
each_of f (x ∷ xs) h =
    each_both Small (f x) (h x (Memᴰ.head refl)) (each_of f xs (λ y m. h y (Memᴰ.tail m)))

-- past its end a list reads as 0
small_bytes : (l : List ℕ) → Each Small l → AreBytes l
small_bytes [] f i = omega arith
small_bytes (x ∷ l) f zero = f x (Memᴰ.head refl)
small_bytes (x ∷ l) f (suc i) = small_bytes l (λ y m. f y (Memᴰ.tail m)) i

-- a word of 16 bits is two bytes
word_small : (n : ℕ) → n < 65536 → Each Small (word_bytes n)
word_small n h = each_more Small (low_byte n) (each_more Small (high_byte n h) (each_none Small))

module _ (f : BookForm) (b : Book) (one : OneForm f) (fits : BookFits f b) where
  known : FormKnown f
  known = form_is_known f b one

  term_small : (t : Term) → BookTerm f b t → Small (byte_of t)
  term_small (var n) h = omega (arith, known.few_variables)
  term_small (con c) h = omega (arith, fits.constants.1)

  places_small : (w : ℕ) (ts : List Term) → ((t : Term) → t ∈ ts → BookTerm f b t) → Each Small (places_bytes w ts)
  places_small zero ts h = each_none Small
  places_small (suc w) [] h = each_more Small (omega arith) (places_small w [] h)
  places_small (suc w) (t ∷ ts) h =
      each_more Small (term_small t (h t (Memᴰ.head refl))) (places_small w ts (λ u m. h u (Memᴰ.tail m)))

  atom_small : (a : Atom) → Small a.rel → ((t : Term) → t ∈ a.args → BookTerm f b t)
      → Each Small (atom_bytes (holding f.places) a)
  unfolding atom_bytes
  atom_small a r h = each_more Small r (places_small f.places a.args h)

  book_atom : (a : Atom) → BookAtom f b a → Each Small (atom_bytes (holding f.places) a)
  book_atom a k = atom_small a (omega (arith, k.relation, fits.relations.1)) k.terms

  atoms_small : (A : Question) → ((a : Atom) → a ∈ A → BookAtom f b a) → Each Small (atoms_bytes f A)
  atoms_small A h = each_of (atom_bytes (holding f.places)) A (λ a m. book_atom a (h a m))

  rule_small : (r : Rule) → BookRule f b r → Each Small (rule_bytes f r)
  unfolding rule_bytes
  rule_small r k =
      each_more Small (omega (arith, k.the_body_count.1))
      (each_more Small (omega (arith, k.the_head_count.1))
      (each_both Small (atoms_bytes f r.body) (atoms_small r.body k.body) (atoms_small r.head k.head)))

  question_small : (ts : List Term) → ((t : Term) → t ∈ ts → BookTerm f b t)
      → Each Small (atoms_bytes f (with_answer ts b.question.atoms))
  question_small [] h = atoms_small b.question.atoms fits.atoms
  question_small (t ∷ ts) h =
      each_both Small (atom_bytes (holding f.places) (answer_atom (t ∷ ts)))
      (atom_small (answer_atom (t ∷ ts)) (omega arith) h)
      (atoms_small b.question.atoms fits.atoms)

  -- the places of the relations
  listed : (ps : List ℕ) → ((r : ℕ) → r < length ps → Small (get_or ps r 0)) → Each Small ps
  listed [] h = each_none Small
  listed (p ∷ ps) h = each_more Small (h 0 (omega arith)) (listed ps (λ r l. h (suc r) (omega arith)))

  -- the header's words, each of 16 bits
  tenth_few : OneForm f → Each (λ n. n < 65536) (tenth_words f)
  tenth_few (inl e) =
      subst (λ (g : BookForm). Each (λ n. n < 65536) (tenth_words g)) (sym e) (each_none (λ n. n < 65536))
  tenth_few (inr e) =
      subst (λ (g : BookForm). Each (λ n. n < 65536) (tenth_words g)) (sym e)
      (each_more (λ n. n < 65536) (omega arith) (each_none (λ n. n < 65536)))

  words_few : Each (λ n. n < 65536) (header_words f b)
  words_few =
      let t = total_most f b one fits in
      more (omega (arith, t))
      (more (omega (arith, fits.constants.1))
      (more (omega (arith, fits.rule_count.1))
      (more (omega (arith, fits.atom_count.1))
      (more (omega (arith, fits.allowed.1))
      (more (omega (arith, t))
      (more (omega (arith, t))
      (more (omega (arith, t))
      (more (omega (arith, t)) (tenth_few one)))))))))
    where
      more : {y : ℕ} {l : List ℕ} → y < 65536 → Each (λ n. n < 65536) l → Each (λ n. n < 65536) (y ∷ l)
      more = each_more (λ n. n < 65536)

  pub written_bytes : AreBytes (book_bytes f b)
  unfolding book_bytes header_bytes
  written_bytes =
      small_bytes (book_bytes f b)
      (each_both Small (header_bytes f b)
      (each_of word_bytes (header_words f b) (λ n m. word_small n (words_few n m)))
      (each_both Small b.places
      (listed b.places (λ r l. omega (arith, (fits.places r l).1, known.few_places)))
      (each_both Small (rules_bytes f b.rules)
      (each_of (rule_bytes f) b.rules (λ r m. rule_small r (fits.rules r m)))
      (question_small b.question.answer fits.answer))))
