-- The entire list: the root's line, and those of everything below it. `begun` says so if there are nodes, and `none` if there are none;
-- what is below the root is all entries but the first.
use Rattle.std.proofs.Common.{◌≡◌, ◌∙◌, sym, ap, subst, ℕ, inl, inr, List, [], ◌∷◌, ◌++◌, length, refl, Some, IsSome, true, false, arith}
use Rattle.std.specs.Prelude.{flat_map, unwrap_or}
use Rattle.std.specs.List.{AllByRecursion}
use Rattle.std.specs.Option.{option_map_or}
use Rattle.std.specs.declared.cmp.Ordering.TheVariants.{Less}
use Rattle.stack_model.specs.Stack.{Path}
use Rattle.stack_model.specs.Listing.{Entry, path_cmp, IsAmong, IsListing}
use Rattle.stack_model.specs.Numbers.{place, nodes, number, number_of, node_of}
use Rattle.stack_model.proofs.Numbering.{numbers_all, root_first}
use Rattle.stack_model.specs.Listing.{Stacked}
use Rattle.node_list.specs.Lines.{line_of, line, lines}
use Rattle.node_list.specs.Below.{is_below, below, AreImages, AreTree, AreShort}
use Rattle.node_list.specs.Walks.{line_at, lines_below, IsVisited}
use Rattle.node_list.proofs.Paths.{later}
use Rattle.node_list.proofs.Trees.{are_tree}
use Rattle.node_list.proofs.Lengths.{are_short}
use Rattle.node_list.proofs.Visits.{numbered}

all_after : (es : List Entry) → AllByRecursion (λ f. path_cmp [] f.path ≡ Less) es → below es [] ≡ es
unfolding below
all_after [] a = refl
all_after (e ∷ es) a = rw (longer e.path a.0) (ap (λ r. e ∷ r) (all_after es a.1))
  where
    longer : (p : Path) → path_cmp [] p ≡ Less → is_below [] p ≡ true
    longer [] f = absurd (cc)
    longer (n ∷ p) f = refl

root_out : (q : Path) → q ≡ [] → is_below [] q ≡ false
root_out [] p = refl
root_out (n ∷ q) p = absurd (cc)

-- if there are no nodes, there are no lines
no_lines : (s : Stacked) (entries : List Entry) → length (nodes entries) ≡ 0 → [] ≡ lines (record s { entries = entries })
no_lines s [] z = refl
no_lines s (e ∷ es) z =
    let some : IsSome (node_of (e ∷ es) (number (e ∷ es) (place e))) = rw (numbered (e ∷ es) e (inl refl)) refl in
    let b = (numbers_all (e ∷ es) (number (e ∷ es) (place e))).0 some in
    absurd (let l = b.0 in let m = b.1 in omega arith)

-- if there are no nodes, there are no lines
pub none : (stack : Stacked) (n : ℕ) → n ≡ length (nodes stack.entries) → n ≡ 0 → [] ≡ lines stack
none stack n e z = no_lines stack stack.entries (sym e ∙ z)

-- the walk begins at the root, and that is all
pub record IsBegun (stack : Stacked) : Type 0 where
  pub visit : IsVisited stack 1 [] []
  pub all : line_at stack 1 [] ++ lines_below stack [] ≡ lines stack

begins : (model : Stacked) (entries : List Entry) → AreTree model.layers entries → AreShort entries → IsListing model.layers entries
    → (length (nodes entries) ≡ 0 → ⊥) → IsBegun (record model { entries = entries })
unfolding below nodes
begins model [] t s l z = absurd (z refl)
begins model (e ∷ es) t s l z =
    let stack : Stacked = record model { entries = e ∷ es } in
    let p = root e.path refl in
    let one : number_of (e ∷ es) (place e) ≡ Some 1 = root_first model.layers (e ∷ es) e l (inl refl) p in
    let n : 1 ≡ number (e ∷ es) (place e) = sym (ap (λ o. unwrap_or o 0) one) in
    let at : node_of (e ∷ es) 1 ≡ Some (place e) = subst (λ k. node_of (e ∷ es) k ≡ Some (place e)) (sym n)
    (numbered (e ∷ es) e (inl refl)) in
    let text = line stack in
    let first = ap (λ o. option_map_or (λ q. line_of stack q []) o []) at ∙ ap (line_of stack (place e)) (sym p) in
    let second : below (e ∷ es) [] ≡ es =
    rw (root_out e.path p) (all_after es (subst (λ q. AllByRecursion (λ f. path_cmp q f.path ≡ Less) es) p l.rising.0)) in
    record {
      visit = record { tree = t; short = s; entry = e; among = inl refl; path_is = p; number_is = n; text_is = refl };
      all = ap (λ x. x ++ flat_map text (below (e ∷ es) [])) first ∙ ap (λ y. text e ++ flat_map text y) second;
    }
  where
    root : (q : Path) → e.path ≡ q → e.path ≡ []
    root [] f = f
    root (n ∷ q) f = let d = t.above e [] q n (inl refl) f in absurd (no_other d.0 n q f d.1 d.2)
      where
        no_other : (d : Entry) (n : List ℕ) (q : Path) → e.path ≡ n ∷ q → IsAmong d (e ∷ es) → d.path ≡ [] → ⊥
        no_other d n q f (inl i) p = let g : (n ∷ q) ≡ [] = sym f ∙ ap (λ (k : Entry). k.path) (sym i) ∙ p in cc
        no_other d n q f (inr a) p = let g : path_cmp (n ∷ q) [] ≡ Less =
            subst (λ r. path_cmp (n ∷ q) r ≡ Less) p (subst (λ r. path_cmp r d.path ≡ Less) f (later e es d l.rising.0 a)) in cc

-- if there are nodes and the images are sound, the walk may begin at the root and prints all lines
pub begun : (stack : Stacked) (n : ℕ) → AreImages stack.layers → IsListing stack.layers stack.entries → n ≡ length (nodes stack.entries)
    → (n ≡ 0 → ⊥) → IsBegun stack
begun stack n i l e z = begins stack stack.entries (are_tree stack.layers stack.entries i l)
    (are_short stack.layers stack.entries i l) l (λ f. z (e ∙ f))
