-- What the functions that judge a book know of its header. Assumes nothing.
use mathlib.Core.Path.{◌≡◌, sym, ◌∙◌, ap, ap₂, subst}
use mathlib.Core.Bool.{cond}
use mathlib.Core.List.{List}
use Prim.Native.Nat.{ℕ, ◌+◌, ◌*◌, ◌<◌, ◌≤◌}
use native.Mathlib.Omega.{arith}
use lib.Dec.{T, eqb}
use lib.ListN.{length}
use Rattle.covering.specs.Record.{new_places}
use Rattle.reading.specs.declared.Header.{Header}
use Rattle.reading.specs.Header.{header_size, relations, constants, rules, atoms, question_at, end_with, answer_records}
use Rattle.reading.specs.Header.{BookForm, form_for, announced, atom_size}
use Rattle.judging.specs.declared.form.Form.{Form}
use Rattle.judging.specs.Forms.{form_named}
use Rattle.reading.specs.Book.{rules_start}
use Rattle.reading.specs.Verdict.{form_in, wrong_rule}
use Rattle.judging.specs.Judged.{HeaderRight}
use Rattle.reading.proofs.Forms.{form_known}
use Rattle.reading.proofs.FoundQuestion.{records_one}
use Rattle.reading.proofs.Known.{HeaderKnown, header_known, records_told}

-- what a form says of a header, by the offset that told it
module _ (t : ℕ) (f : Form) (told : form_named f ≡ form_for t) {n : ℕ} where
  pub is_header : n ≡ (form_named f).header → n ≡ (form_for t).header
  is_header e = e ∙ ap (λ (x : BookForm). x.header) told

  pub is_places : n ≡ (form_named f).places → n ≡ (form_for t).places
  is_places e = e ∙ ap (λ (x : BookForm). x.places) told

module _ {B : List ℕ} {h : Header} where
  pub known : HeaderRight B h → HeaderKnown B h
  known r = subst (HeaderKnown B) (sym r.is) (header_known B r.table r.offsets)

  -- its words, and how many answer records it tells of
  pub is_relations : HeaderRight B h → h.relations ≡ relations B
  is_relations r = ap (λ (x : Header). x.relations) r.is

  pub is_constants : HeaderRight B h → h.constants ≡ constants B
  is_constants r = ap (λ (x : Header). x.constants) r.is

  pub is_rules : HeaderRight B h → h.rules ≡ rules B
  is_rules r = ap (λ (x : Header). x.rules) r.is

  pub is_question : HeaderRight B h → h.question ≡ question_at B
  is_question r = ap (λ (x : Header). x.question) r.is

  pub is_atoms : HeaderRight B h → h.atoms ≡ atoms B
  is_atoms r = ap (λ (x : Header). x.atoms) r.is

  pub is_start : HeaderRight B h → h.start ≡ rules_start B
  is_start r = (known r).start_is ∙ ap (λ (n : ℕ). header_size B + n) (is_relations r)

  pub is_records : HeaderRight B h
      → {n : ℕ} → n ≡ cond (eqb h.total (end_with (form_in h) h.question h.atoms)) 1 0 → n ≡ answer_records B
  is_records r e = e ∙ records_told B h r.is

  -- an atom has six places at most; the relations stand inside the book
  pub few_places : HeaderRight B h → h.places ≤ new_places
  few_places r = omega (arith, (known r).places_are, (form_known B).few_places)

  pub relations_within : HeaderRight B h → h.table + h.relations ≤ length B
  relations_within r = let k = known r in omega (arith, k.table_is, k.start_fits, k.ends)

  -- the search for a wrong rule, as the header says where
  pub rule_search : HeaderRight B h
      → wrong_rule B h.question h.start h.rules ≡ wrong_rule B (question_at B) (rules_start B) (rules B)
  rule_search r =
      ap (λ (e : ℕ). wrong_rule B e h.start h.rules) (is_question r)
      ∙ ap₂ (wrong_rule B (question_at B)) (is_start r) (is_rules r)

  -- where the question ends that has an answer record
  pub ends_with : HeaderRight B h → T (announced B)
      → h.question + 1 + h.places + (1 + h.places) * h.atoms ≡ length B
  ends_with r t =
      let k = known r in
      let first = ap (λ (n : ℕ). atom_size B * n) (records_one B t) in
      let rest = ap (λ (w : ℕ). (1 + w) * h.atoms) k.places_are in
      omega (arith, k.ends, k.places_are)

  -- what `answers` asks
  pub counts_fit : HeaderRight B h → (h.atoms < 65536) × (h.question < 65536)
  counts_fit r = (omega (arith, (known r).few_atoms), omega (arith, is_question r, r.question_fits))
