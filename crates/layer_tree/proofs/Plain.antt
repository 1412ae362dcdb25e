-- Plain paths, by test. plain_is lets the test of trees replace what stacks require: that no name of the path is a marker's.
use Rattle.std.proofs.Common.{◌≡◌, ◌∙◌, sym, ◌↔◌, [], ◌∷◌, refl, Bool, true, false, not, ◌&&◌}
use Rattle.std.specs.Prelude.{nat_eq}
use Rattle.std.specs.List.{starts_with}
use Rattle.stack_model.specs.Stack.{Path, IsPlain, marker}
use Rattle.layer_paths.specs.Marks.{is_plain}

-- the test passes exactly the plain paths
pub plain_is : (path : Path) → (is_plain path ≡ true) ↔ IsPlain path
plain_is [] = (λ e. tt, λ p. refl)
plain_is (n ∷ path) = let r = plain_is path in (
  λ e. to r (starts_with nat_eq n marker) refl e,
  λ p. from r (starts_with nat_eq n marker) refl p,
)
  where
    to : ((is_plain path ≡ true) ↔ IsPlain path) → (b : Bool) → starts_with nat_eq n marker ≡ b → (not b && is_plain path) ≡ true
        → IsPlain (n ∷ path)
    to r true f e = absurd (cc)
    to r false f e = ((λ m. let g = sym f ∙ m in cc), r.0 e)

    from : ((is_plain path ≡ true) ↔ IsPlain path) → (b : Bool) → starts_with nat_eq n marker ≡ b → IsPlain (n ∷ path)
        → (not b && is_plain path) ≡ true
    from r true f p = absurd (p.0 f)
    from r false f p = r.1 p.1
