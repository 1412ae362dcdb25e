-- What is given is what is shown (shown_given). What is read under a digest, piece by piece (read_append).
use Rattle.std.proofs.Common.{◌≡◌, ◌∙◌, sym, ap, subst, ℕ, ◌+◌, ◌-◌, ◌≤◌, List, ◌++◌, length, take, drop, get_or, refl, arith, inl, inr, length-drop, length-take-le, length-append, ext_get_or}
use Rattle.std.proofs.lemmas.List.{get_or-take, get_or-drop, get_or_append_left, get_or-append_right}
use Rattle.std.proofs.lemmas.Bool.{cases_lt}
use Rattle.devices.specs.Given.{anything, these}
use Rattle.devices.specs.Seal.{Seal}
use Rattle.devices.specs.Read.{IsUnmatched, IsReadAt, AreRead}
use Rattle.devices.specs.Sources.{Source, file, sealed, MayGive, Shows}

pub read_are : (s : Seal) (place : ℕ) (bytes : List ℕ) → AreRead s place bytes → (xs : List ℕ) → IsUnmatched s xs
    → bytes ≡ take (length bytes) (drop place xs)
read_are s place bytes r xs u =
    let long : length bytes ≤ length (drop place xs) =
    (elim (cases_lt 0 (length bytes)) [
      | inr none ↦ omega arith
      | inl some ↦
          let last = ((r.each (length bytes - 1) (omega arith)).right xs u).0 in
          let e = length-drop place xs in omega arith
    ]) in
    let size : length (take (length bytes) (drop place xs)) ≡ length bytes = length-take-le (length bytes) (drop place xs) long in
    ext_get_or 0 bytes (take (length bytes) (drop place xs)) (sym size)
    (λ k below. ((r.each k below).right xs u).1 ∙ sym (get_or-take (length bytes) (drop place xs) k 0 below ∙ get_or-drop place xs k 0))

pub shown_given : (source : Source) (xs ys : List ℕ) (place : ℕ) → Shows source xs → MayGive source place ys
    → ys ≡ take (length ys) (drop place xs)
shown_given (file anything) xs ys place shown given = absurd shown
shown_given (file (these bytes)) xs ys place shown given = given ∙ ap (λ l. take (length ys) (drop place l)) shown
shown_given (sealed s) xs ys place shown given = read_are s place ys given xs shown

pub read_append : (s : Seal) (place : ℕ) (p q : List ℕ) → AreRead s place p → AreRead s (place + length p) q → AreRead s place (p ++ q)
read_append s place p q v w =
    let size = length-append p q in
    record {
      each = λ k below.
          elim (cases_lt k (length p)) [
            | inl less ↦ subst (λ x. IsReadAt s (place + k) x) (sym (get_or_append_left p q 0 k less)) (v.each k less)
            | inr past ↦
                let e : get_or (p ++ q) k 0 ≡ get_or q (k - length p) 0 = get_or-append_right p q (length p) k 0 refl past in
                let at : place + length p + (k - length p) ≡ place + k = omega arith in
                subst (λ x. IsReadAt s (place + k) x) (sym e)
                (subst (λ j. IsReadAt s j (get_or q (k - length p) 0)) at (w.each (k - length p) (omega arith)))
          ];
    }
