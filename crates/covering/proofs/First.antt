-- The map that the search finds is the first: of all ways to give each atom of A a candidate of B, taken in order
-- with the first atom's candidate as the most significant, the first that some map allows. Assumes nothing.
use mathlib.Core.Path.{◌≡◌, refl, sym, ◌∙◌, ap, ap₂}
use mathlib.Core.List.{List, [], ◌∷◌, ◌++◌, map}
use mathlib.Core.Option.{Option, none, some}
use Rattle.covering.specs.Lists.{head, push, or_else, bind, first_of, collect, gather}
use Rattle.covering.specs.Term.{Atom, Question}
use Rattle.covering.specs.Search.{Part, nowhere, place_atom, find_map, first_map}

-- a candidate for each atom of A, in every way, in order
abbrev pub placements : Question → Question → List Question
placements [] B = [] ∷ []
placements (a ∷ A) B = gather (λ b. map (λ C. b ∷ C) (placements A B)) B

-- the map that sends each atom to its candidate, if there is one
abbrev pub place_all : Part → Question → Question → Option Part
place_all p [] C = some p
place_all p (a ∷ A) [] = none
place_all p (a ∷ A) (c ∷ C) = bind (place_atom p a c) (λ q. place_all q A C)

module _ {X : Type 0} where
  head_push : (o : Option X) (l : List X) → head (push o l) ≡ or_else o (head l)
  head_push none l = refl
  head_push (some x) l = refl

  or_else_assoc : (o p r : Option X) → or_else (or_else o p) r ≡ or_else o (or_else p r)
  or_else_assoc none p r = refl
  or_else_assoc (some x) p r = refl

pub first_of_collect : {X Y : Type 0} (f : X → Option Y) (l : List X) → head (collect f l) ≡ first_of f l
first_of_collect f [] = refl
first_of_collect f (x ∷ xs) = head_push (f x) (collect f xs) ∙ ap (or_else (f x)) (first_of_collect f xs)

first_of_append : {X Y : Type 0} (f : X → Option Y) (l m : List X)
    → first_of f (l ++ m) ≡ or_else (first_of f l) (first_of f m)
first_of_append f [] m = refl
first_of_append f (x ∷ xs) m =
    ap (or_else (f x)) (first_of_append f xs m) ∙ sym (or_else_assoc (f x) (first_of f xs) (first_of f m))

first_of_gather : {X Y Z : Type 0} (f : Y → Option Z) (g : X → List Y) (l : List X)
    → first_of f (gather g l) ≡ first_of (λ x. first_of f (g x)) l
first_of_gather f g [] = refl
first_of_gather f g (x ∷ xs) =
    first_of_append f (g x) (gather g xs) ∙ ap (or_else (first_of f (g x))) (first_of_gather f g xs)

pub first_of_same : {X Y : Type 0} (f g : X → Option Y) (l : List X) → ((x : X) → f x ≡ g x) → first_of f l ≡ first_of g l
first_of_same f g [] h = refl
first_of_same f g (x ∷ xs) h = ap₂ or_else (h x) (first_of_same f g xs h)

first_of_map : {X Y Z : Type 0} (f : Y → Option Z) (g : X → Y) (l : List X)
    → first_of f (map g l) ≡ first_of (λ x. f (g x)) l
first_of_map f g [] = refl
first_of_map f g (x ∷ xs) = ap (or_else (f (g x))) (first_of_map f g xs)

first_of_none : {X Y : Type 0} (l : List X) → first_of {B = Y} (λ x. none) l ≡ none
first_of_none [] = refl
first_of_none (x ∷ xs) = first_of_none xs

first_of_bind : {X Y Z : Type 0} (o : Option Y) (f : Y → X → Option Z) (l : List X)
    → first_of (λ x. bind o (λ y. f y x)) l ≡ bind o (λ y. first_of (f y) l)
first_of_bind none f l = first_of_none l
first_of_bind (some y) f l = refl

pub search_first : (A B : Question) (p : Part) → find_map A B p ≡ head (collect (place_all p A) (placements A B))
unfolding find_map
search_first [] B p = refl
search_first (a ∷ A) B p =
    sym (first_of_collect (place_all p (a ∷ A)) (placements (a ∷ A) B) ∙ by_candidate (λ q. search_first A B q))
  where
    rest : Part → Option Part
    rest q = first_of (place_all q A) (placements A B)

    one : (b : Atom) → first_of (place_all p (a ∷ A)) (map (λ C. b ∷ C) (placements A B)) ≡ bind (place_atom p a b) rest
    one b =
        first_of_map (place_all p (a ∷ A)) (λ C. b ∷ C) (placements A B)
        ∙ first_of_bind (place_atom p a b) (λ q C. place_all q A C) (placements A B)

    Rest : Type 0
    Rest = (q : Part) → find_map A B q ≡ head (collect (place_all q A) (placements A B))

    again : Rest → (o : Option Part) → bind o rest ≡ bind o (λ q. find_map A B q)
    again below none = refl
    again below (some q) = sym (below q ∙ first_of_collect (place_all q A) (placements A B))

    by_candidate : Rest → first_of (place_all p (a ∷ A)) (placements (a ∷ A) B)
        ≡ first_of (λ b. bind (place_atom p a b) (λ q. find_map A B q)) B
    by_candidate below =
        first_of_gather (place_all p (a ∷ A)) (λ b. map (λ C. b ∷ C) (placements A B)) B
        ∙ first_of_same _ _ B (λ b. one b ∙ again below (place_atom p a b))

pub first_map_first : (A B : Question) → first_map A B ≡ head (collect (place_all nowhere A) (placements A B))
unfolding first_map
first_map_first A B = search_first A B nowhere
