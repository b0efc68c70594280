-- A whole book put: its relations, its rules and its question one after the other, and the header before them once it
-- is known where they end. Assumes nothing.
use mathlib.Core.Path.{◌≡◌, refl, sym, ◌∙◌, ap, ap₂, subst}
use mathlib.Core.Logic.{◌⊎◌, inl, inr}
use mathlib.Core.List.Memᴰ
use mathlib.Core.List.{List, [], ◌∷◌}
use Prim.Native.Nat.{ℕ, ◌+◌, ◌*◌, ◌/◌, ◌≤◌, ◌<◌}
use native.Mathlib.Omega.{arith}
use lib.ListN.{length, get_or, take, drop}
use lib.Seq.{length-take-le}
use Rattle.covering.specs.Lists.{◌∈◌, gather}
use Rattle.covering.specs.Term.{Term, Atom, Question}
use Rattle.covering.specs.Asking.{answer_most, answer_atom, with_answer, joined}
use Rattle.covering.specs.Record.{holding, atoms_at, atom_bytes}
use Rattle.covering.specs.Buffer.{AtomsIn}
use Rattle.covering.specs.Put.{Puts}
use Rattle.covering.proofs.Lengths.{atoms_long}
use Rattle.covering.proofs.Putting.{put_as, then, first, kept}
use Rattle.reading.specs.declared.Header.{Header}
use Rattle.reading.specs.Word.{word_bytes}
use Rattle.reading.specs.Header.{BookForm, old, new, header_of, atoms, question_at}
use Rattle.reading.specs.Header.{atom_places, answer_records}
use Rattle.reading.specs.Book.{Book, book_of}
use Rattle.reading.specs.Verdict.{SoundBook}
use Rattle.reading.specs.Written.{rules_bytes, question_bytes, rules_offset, question_offset, total_length, tenth_words}
use Rattle.reading.specs.Written.{header_words, header_bytes, contents_bytes, book_bytes}
use Rattle.reading.proofs.BookFit.{book_constants, relation_count, rule_count, atom_count}
use Rattle.reading.proofs.Fits.{joined_count}
use Rattle.reading.proofs.Forms.{FormKnown, for_known, says_old, says_new_lem}
use Rattle.judging.specs.declared.form.Form.{Form}
use Rattle.judging.specs.declared.form.Form.TheVariants.{Old, New}
use Rattle.judging.specs.Forms.{form_named}
use Rattle.reading.proofs.QuestionRead.{joined_question}
use Rattle.reading.proofs.Reading.{book_places, book_allowed}
use Rattle.reading.proofs.SoundBook.{sound_header, holding_room}
use Rattle.reading.proofs.SoundQuestion.{sound_atoms}
use Rattle.reading.proofs.WordBytes.{words_long}
use Rattle.reading.proofs.WrittenSize.{total_most}
use Rattle.forms.specs.Ready.{BookReady}
use Rattle.forms.proofs.Headed.{Headed, headed}
use Rattle.forms.proofs.Rules.{atom_few}
use Rattle.forms.proofs.Steps.{AreWords, none, more, word_fits, words_taken}

-- an answer record has at most four places, and every form has as many
joined_few : (f : BookForm) (ts : List Term) (A : Question) → length ts ≤ answer_most → answer_most ≤ f.places
    → ((a : Atom) → a ∈ A → length a.args ≤ f.places) → (a : Atom) → a ∈ with_answer ts A
    → length a.args ≤ f.places
joined_few f [] A few some each a m = each a m
joined_few f (t ∷ ts) A few some each a m = go (Memᴰ.cases_cons m)
  where
    go : (a ≡ answer_atom (t ∷ ts)) ⊎ (a ∈ A) → length a.args ≤ f.places
    go (inl e) = rw e (omega arith)
    go (inr n) = each a n

-- nine words, and what follows them
abbrev nine_words : Header → ℕ → ℕ → ℕ → ℕ → List ℕ → List ℕ
nine_words h t start question end ws =
    h.relations ∷ h.constants ∷ h.rules ∷ h.atoms ∷ h.allowed ∷ t ∷ start ∷ question ∷ end ∷ ws

-- what is known of a form by its name
pub named_cases : (F : Form) → (form_named F ≡ old) ⊎ (form_named F ≡ new)
named_cases Old = inl refl
named_cases New = inr refl

pub named_known : (F : Form) → FormKnown (form_named F)
named_known Old = subst FormKnown (says_old 18 refl) (for_known 18)
named_known New = subst FormKnown (says_new_lem 20 refl) (for_known 20)

module _ (B : List ℕ) (F : Form) {t : ℕ} (ready : BookReady B (form_named F)) (own : (form_named F).header ≡ t) where
  abbrev f : BookForm
  f = form_named F

  abbrev b : Book
  b = book_of B

  s : SoundBook B
  s = ready.sound

  -- the header, as the code reads it
  module _ {h : Header} (is : h ≡ header_of B) where
    hd : Headed B h
    hd = headed B s is

    -- there is room for the relations
    pub table_room : t + h.relations ≤ 2003
    table_room = omega (arith, own, hd.relations_are, relation_count B s, total_most f b (named_cases F) ready.fits)

    -- the relations as the book that is meant has them
    table_bytes : b.places ≡ take h.relations (drop h.table B)
    table_bytes = book_places B ∙ ap₂ (λ (n i : ℕ). take n (drop i B)) (sym hd.relations_are) (sym hd.table_is)

    module _ {came u₁ : List ℕ} {start : ℕ} (p₁ : Puts (take h.relations (drop h.table B)) came t start u₁)
        (long : 2003 ≤ length came)
      where
        start_is : start ≡ rules_offset f b
        start_is = p₁.ends ∙ ap₂ ◌+◌ (sym own) (ap length (sym table_bytes))

        pub rules_room : start + length (rules_bytes f b.rules) ≤ length u₁
        rules_room = omega (arith, start_is, kept p₁, long, total_most f b (named_cases F) ready.fits)

        module _ {u₂ : List ℕ} {question n v : ℕ} (p₂ : Puts (rules_bytes f b.rules) u₁ start question u₂)
            (count : n ≡ answer_records B + h.atoms) (places : v ≡ f.places)
          where
            question_offset_lem : question ≡ question_offset f b
            question_offset_lem = p₂.ends ∙ ap (λ (k : ℕ). k + length (rules_bytes f b.rules)) start_is

            all : n ≡ answer_records B + atoms B
            all = count ∙ ap (λ (k : ℕ). answer_records B + k) hd.atoms_are

            question_atoms : atoms_at (holding h.places) B h.question n ≡ joined b.question
            question_atoms =
                ap₂ (λ (w i : ℕ). atoms_at (holding w) B i n) hd.places_are hd.question_is
                ∙ ap (atoms_at (holding (atom_places B)) B (question_at B)) all
                ∙ sym (joined_question B s)

            question_put : question_bytes f b.question
                ≡ gather (atom_bytes (holding v)) (atoms_at (holding h.places) B h.question n)
            question_put =
                ap₂ (λ (w : ℕ) (A : Question). gather (atom_bytes (holding w)) A) (sym places) (sym question_atoms)

            pub question_in : AtomsIn (holding h.places) B h.question n
            question_in =
                subst (λ (w : ℕ). AtomsIn (holding w) B h.question n) (sym hd.places_are)
                (subst (λ (i : ℕ). AtomsIn (holding (atom_places B)) B i n) (sym hd.question_is)
                (subst (λ (k : ℕ). AtomsIn (holding (atom_places B)) B (question_at B) k) (sym all)
                (record {
                  fits = omega (arith, (sound_header B s).ends);
                  sound = sound_atoms B s (holding (atom_places B)) (holding_room B s) (λ u. tt);
                })))

            pub question_few : (a : Atom) → a ∈ atoms_at (holding h.places) B h.question n → length a.args ≤ v
            question_few a m =
                let k =
                joined_few f b.question.answer b.question.atoms ready.fits.answer_count
                (named_known F).some_places (λ x l. atom_few f b ready.fits x (ready.fits.atoms x l)) a
                (subst (λ (A : Question). a ∈ A) question_atoms m) in
                omega (arith, places)

            question_long : length (question_bytes f b.question) ≡ n * (1 + v)
            question_long =
                atoms_long (holding f.places) (joined b.question)
                ∙ ap₂ (λ (k w : ℕ). k * (1 + w)) (joined_count B s ∙ sym all) (sym places)

            pub question_room : question + n * (1 + v) ≤ length u₂
            question_room =
                omega (
                  arith,
                  question_offset_lem,
                  question_long,
                  kept p₁,
                  kept p₂,
                  long,
                  total_most f b (named_cases F) ready.fits,
                )

            module _ {u₃ : List ℕ} {end : ℕ}
                (p₃ : Puts (gather (atom_bytes (holding v)) (atoms_at (holding h.places) B h.question n)) u₂
                question end u₃)
              where
                end_is : end ≡ total_length f b
                end_is = p₃.ends ∙ ap₂ ◌+◌ question_offset_lem (ap length (sym question_put))

                contents_put : Puts (contents_bytes f b) came t end u₃
                contents_put = then (put_as table_bytes p₁) (then p₂ (put_as question_put p₃))

                -- the header's words as the code has them, nine of them and the tenth
                abbrev nine : List ℕ → List ℕ
                nine ws = nine_words h t start question end ws

                words_fit_all : AreWords (nine (v ∷ []))
                words_fit_all =
                    let l = total_most f b (named_cases F) ready.fits in
                    let known = sound_header B s in
                    more {n = h.relations} (omega (arith, hd.relations_are, known.few_relations))
                    (more {n = h.constants} (omega (arith, hd.constants_are, known.few_constants))
                    (more {n = h.rules} (omega (arith, hd.rules_are, known.few_rules))
                    (more {n = h.atoms} (omega (arith, hd.atoms_are, known.few_atoms))
                    (more {n = h.allowed} (omega (arith, hd.allowed_is, known.few_allowed))
                    (more {n = t} (omega (arith, own, (named_known F).few_header))
                    (more {n = start} (omega (arith, start_is, l))
                    (more {n = question} (omega (arith, question_offset_lem, l))
                    (more {n = end} (omega (arith, end_is, l))
                    (more {n = v} (omega (arith, places, (named_known F).few_places)) none)))))))))

                pub words_fit : (k : ℕ) → get_or (take (t / 2) (nine (v ∷ []))) k 0 < 65536
                words_fit = word_fits (words_taken (t / 2) words_fit_all)

                pub few_words : t / 2 ≤ 10
                few_words = omega (arith, own, (named_known F).few_header)

                pub words_room : 2 * length (take (t / 2) (nine (v ∷ []))) ≤ length u₃
                words_room =
                    omega (
                      arith,
                      few_words,
                      length-take-le (t / 2) (nine (v ∷ [])) few_words,
                      kept contents_put,
                      long,
                    )

                nine_are : (ws : List ℕ) → length b.places ∷ b.constants ∷ length b.rules
                    ∷ length b.question.atoms ∷ b.allowed ∷ f.header ∷ rules_offset f b ∷ question_offset f b
                    ∷ total_length f b ∷ ws ≡ nine ws
                nine_are ws =
                    ap₂ ◌∷◌ (relation_count B s ∙ sym hd.relations_are)
                    (ap₂ ◌∷◌ (book_constants B ∙ sym hd.constants_are)
                    (ap₂ ◌∷◌ (rule_count B ∙ sym hd.rules_are)
                    (ap₂ ◌∷◌ (atom_count B ∙ sym hd.atoms_are)
                    (ap₂ ◌∷◌ (book_allowed B ∙ sym hd.allowed_is)
                    (ap₂ ◌∷◌ own
                    (ap₂ ◌∷◌ (sym start_is)
                    (ap₂ ◌∷◌ (sym question_offset_lem) (ap (λ (n : ℕ). n ∷ ws) (sym end_is)))))))))

                words_are : (f ≡ old) ⊎ (f ≡ new) → header_words f b ≡ take (t / 2) (nine (v ∷ []))
                words_are (inl e) =
                    let half : t / 2 ≡ 9 = ap (λ (k : ℕ). k / 2) (sym own ∙ ap (λ (x : BookForm). x.header) e) in
                    nine_are (tenth_words f)
                    ∙ ap nine (ap tenth_words e)
                    ∙ ap (λ (k : ℕ). take k (nine (v ∷ []))) (sym half)
                words_are (inr e) =
                    let half : t / 2 ≡ 10 = ap (λ (k : ℕ). k / 2) (sym own ∙ ap (λ (x : BookForm). x.header) e) in
                    nine_are (tenth_words f)
                    ∙ ap nine
                    (ap tenth_words e ∙ ap (λ (k : ℕ). k ∷ []) (sym (places ∙ ap (λ (x : BookForm). x.places) e)))
                    ∙ ap (λ (k : ℕ). take k (nine (v ∷ []))) (sym half)

                header_long : (f ≡ old) ⊎ (f ≡ new) → 2 * length (header_words f b) ≡ t
                header_long (inl e) =
                    ap (λ (x : BookForm). 2 * length (header_words x b)) e
                    ∙ sym (sym own ∙ ap (λ (x : BookForm). x.header) e)
                header_long (inr e) =
                    ap (λ (x : BookForm). 2 * length (header_words x b)) e
                    ∙ sym (sym own ∙ ap (λ (x : BookForm). x.header) e)

                -- the header is put before them: the whole book is put
                pub book_put : {u₄ : List ℕ} {stop : ℕ}
                    → Puts (gather word_bytes (take (t / 2) (nine (v ∷ [])))) u₃ 0 stop u₄
                    → Puts (book_bytes f b) came 0 end u₄
                unfolding book_bytes header_bytes
                book_put {u₄} {stop} p₄ =
                    let there : Puts (gather word_bytes (header_words f b)) u₃ 0 stop u₄ =
                    put_as (ap (gather word_bytes) (words_are (named_cases F))) p₄ in
                    let up : stop ≡ t =
                    omega (arith, there.ends, words_long (header_words f b), header_long (named_cases F)) in
                    first contents_put (omega arith)
                    (subst (λ (k : ℕ). Puts (gather word_bytes (header_words f b)) u₃ 0 k u₄) up there)
