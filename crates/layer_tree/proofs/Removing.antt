-- What marks and files remove: a path is removed if it, or a path above it, is. removed_extends says so for both, cut_extends for marks;
-- covering_file and file_covers find the file above a covered path.
use Rattle.std.proofs.Common.{◌≡◌, sym, ap, subst, inl, inr, [], ◌∷◌, ◌++◌, refl, Option, Some, None, Bool, true, false, not}
use Rattle.std.specs.Prelude.{option_map}
use Rattle.std.proofs.lemmas.Bool.{or_cases, or_left, or_right}
use Rattle.stack_model.specs.Stack.{Path}
use Rattle.stack_model.specs.Attributes.{is_directory}
use Rattle.layer_paths.specs.declared.entries.Entry.{Entry}
use Rattle.layer_paths.specs.declared.entries.Mark.{Mark}
use Rattle.layer_paths.specs.Marks.{cuts_itself, cuts_below, cut_by, mark_of, covered_by, removed_by}

-- booleans that are true together are the same
pub both_ways : (a b : Bool) → (a ≡ true → b ≡ true) → (b ≡ true → a ≡ true) → a ≡ b
both_ways true b f g = sym (f refl)
both_ways false true f g = g refl
both_ways false false f g = refl

below_itself : (o : Option Mark) → cuts_itself o ≡ true → cuts_below o ≡ true
below_itself None e = absurd (cc)
below_itself (Some m) e = or_left m.cut m.opaque e

-- what is cut is cut with more names, too
pub cut_extends : (m : Path → Option Mark) (q r : Path) → cut_by m q ≡ true → cut_by m (q ++ r) ≡ true
cut_extends m [] [] e = e
cut_extends m [] (n ∷ r) e = or_left (cuts_below (m [])) (cut_by (λ p. m (n ∷ p)) r) (below_itself (m []) e)
cut_extends m (n ∷ q) r e = elim (or_cases (cuts_below (m [])) (cut_by (λ p. m (n ∷ p)) q) e) [
  | inl x ↦ or_left (cuts_below (m [])) (cut_by (λ p. m (n ∷ p)) (q ++ r)) x
  | inr y ↦ or_right (cuts_below (m [])) (cut_by (λ p. m (n ∷ p)) (q ++ r)) (cut_extends (λ p. m (n ∷ p)) q r y)
]

-- a path whose own mark cuts it is cut
pub cut_at_itself : (m : Path → Option Mark) (q : Path) → cuts_itself (m q) ≡ true → cut_by m q ≡ true
cut_at_itself m [] e = e
cut_at_itself m (n ∷ q) e = or_right (cuts_below (m [])) (cut_by (λ p. m (n ∷ p)) q) (cut_at_itself (λ p. m (n ∷ p)) q e)

-- there is a file at the path
abbrev pub IsFile : Option Entry → Type 0
IsFile o = cuts_itself (option_map mark_of o) ≡ true

file_below : (o : Option Entry) → cuts_below (option_map mark_of o) ≡ true → IsFile o
file_below None e = absurd (cc)
file_below (Some x) e = elim (or_cases (not (is_directory x.kind)) false e) [ inl y ↦ y | inr y ↦ absurd (cc) ]

-- a covered path has a file at it or above it
pub covering_file : (f : Path → Option Entry) (path : Path) → covered_by f path ≡ true
    → (q : Path) × (r : Path) × (path ≡ q ++ r) × IsFile (f q)
covering_file f [] e = ([], [], refl, e)
covering_file f (n ∷ path) e = elim (or_cases (cuts_below (option_map mark_of (f []))) (covered_by (λ p. f (n ∷ p)) path) e) [
  | inl x ↦ ([], n ∷ path, refl, file_below (f []) x)
  | inr y ↦ (let w = covering_file (λ p. f (n ∷ p)) path y in (n ∷ w.0, w.1, ap (λ p. n ∷ p) w.2, w.3))
]

-- what a file covers: its path, and all below it
pub file_covers : (f : Path → Option Entry) (path q r : Path) → path ≡ q ++ r → IsFile (f q) → covered_by f path ≡ true
file_covers f path q r e x = subst (λ p. covered_by f p ≡ true) (sym e)
    (cut_extends (λ p. option_map mark_of (f p)) q r (cut_at_itself (λ p. option_map mark_of (f p)) q x))

-- what is removed is removed with more names, too
pub removed_extends : (m : Path → Option Mark) (f : Path → Option Entry) (path q r : Path) → path ≡ q ++ r
    → removed_by m f q ≡ true → removed_by m f path ≡ true
removed_extends m f path q r e x = subst (λ p. removed_by m f p ≡ true) (sym e) (elim (or_cases (cut_by m q) (covered_by f q) x) [
  | inl y ↦ or_left (cut_by m (q ++ r)) (covered_by f (q ++ r)) (cut_extends m q r y)
  | inr y ↦ or_right (cut_by m (q ++ r)) (covered_by f (q ++ r)) (cut_extends (λ p. option_map mark_of (f p)) q r y)
])
