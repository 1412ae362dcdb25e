-- The places that a request may meet have numbers: those of nodes, of their parent directories, and of their children. Parents and children
-- are found among the entries, and `numbered_entry`, the main lemma, says that the place of each entry has a number.
use Rattle.std.proofs.Common.{◌≡◌, ◌∙◌, ap, ℕ, ◌⊎◌, inl, inr, List, [], ◌∷◌, Bool, cond, true, false, Option, Some, None, IsSome, refl, subst, unwrap_or, length, take, ◌-◌}
use Rattle.std.specs.List.{find, filter_map, cons_option, AllByRecursion}
use Rattle.std.specs.Option.{option_map, option_map_or}
use Rattle.stack_model.specs.Stack.{Path}
use Rattle.stack_model.specs.Listing.{Entry, IsAmong}
use Rattle.stack_model.specs.Numbers.{Place, Child, place, same_name, same_path, name_below, child_in, number, number_of, node_of, path_of, parent, children, child}
use Rattle.stack_model.proofs.Numbering.{number_used, entries_numbered}

-- the place has a number that is its own
abbrev pub IsNumbered : List Entry → Place → Type 0
IsNumbered entries p = node_of entries (number entries p) ≡ Some p

-- the number of a node's place is the node's
pub number_is : (entries : List Entry) (n : ℕ) (p : Place) → node_of entries n ≡ Some p → number entries p ≡ n
number_is entries n p is = ap (λ o. unwrap_or o 0) ((number_used entries n p).1 is)

-- the place of a node has a number
pub numbered_node : (entries : List Entry) (n : ℕ) (p : Place) → node_of entries n ≡ Some p → IsNumbered entries p
numbered_node entries n p is = ap (node_of entries) (number_is entries n p is) ∙ is

-- the place of an entry has a number
pub numbered_entry : (entries : List Entry) (e : Entry) → IsAmong e entries → IsNumbered entries (place e)
numbered_entry entries e among = some (number_of entries (place e)) refl (entries_numbered entries e e among among).0
  where
    some : (o : Option ℕ) → number_of entries (place e) ≡ o → IsSome o → IsNumbered entries (place e)
    some None is has = absurd (cc)
    some (Some n) is has = numbered_node entries n (place e) ((number_used entries n (place e)).0 is)

found_among : (test : Entry → Bool) (e : Entry) (es : List Entry) → find test es ≡ Some e → IsAmong e es
found_among test e [] is = absurd (cc)
found_among test e (f ∷ fs) is = go (test f) is (found_among test e fs)
  where
    go : (b : Bool) → cond b (Some f) (find test fs) ≡ Some e → (find test fs ≡ Some e → IsAmong e fs) → (e ≡ f) ⊎ IsAmong e fs
    go true is later = inl (cc)
    go false is later = inr (later is)

-- the directory above a node has a number
pub numbered_parent : (entries : List Entry) (n : ℕ) (p : Place) → node_of entries n ≡ Some p → IsNumbered entries (parent entries p)
unfolding parent
numbered_parent entries n p is =
    go (find (λ e. same_path (take (length (path_of entries p) - 1) (path_of entries p)) e.path) entries) refl
  where
    go : (o : Option Entry) → find (λ e. same_path (take (length (path_of entries p) - 1) (path_of entries p)) e.path) entries ≡ o
        → IsNumbered entries (option_map_or place o p)
    go None found = numbered_node entries n p is
    go (Some e) found = numbered_entry entries e (found_among _ e entries found)

-- what the children of a path are, entry by entry
children_numbered : (all : List Entry) (top : Path) (es : List Entry) → ((e : Entry) → IsAmong e es → IsNumbered all (place e))
    → AllByRecursion (λ c. IsNumbered all c.place) (filter_map (child_in top) es)
children_numbered all top [] each = tt
children_numbered all top (e ∷ es) each = go (name_below top e.path) (children_numbered all top es (λ f among. each f (inr among)))
  where
    go : (o : Option (List ℕ)) → AllByRecursion (λ c. IsNumbered all c.place) (filter_map (child_in top) es)
        → AllByRecursion (λ c. IsNumbered all c.place)
        (cons_option (option_map (λ n. record { name = n; place = place e }) o) (filter_map (child_in top) es))
    go None later = later
    go (Some n) later = (each e (inl refl), later)

-- all children of a place have numbers
pub numbered_children : (entries : List Entry) (p : Place) → AllByRecursion (λ c. IsNumbered entries c.place) (children entries p)
unfolding children
numbered_children entries p = children_numbered entries (path_of entries p) entries (numbered_entry entries)

found_with : {X : Type 0} (P : X → Type 0) (test : X → Bool) (x : X) (xs : List X) → AllByRecursion P xs → find test xs ≡ Some x → P x
found_with P test x [] each is = absurd (cc)
found_with P test x (y ∷ ys) each is = go (test y) is (found_with P test x ys each.1)
  where
    go : (b : Bool) → cond b (Some y) (find test ys) ≡ Some x → (find test ys ≡ Some x → P x) → P x
    go true is later = let same : y ≡ x = cc in subst P same each.0
    go false is later = later is

-- the child of a name has a number
pub numbered_child : (entries : List Entry) (p : Place) (name : List ℕ) (c : Place) → child entries p name ≡ Some c → IsNumbered entries c
numbered_child entries p name c is = go (find (λ c. same_name name c.name) (children entries p)) refl is
  where
    go : (o : Option Child) → find (λ c. same_name name c.name) (children entries p) ≡ o → option_map (λ c. c.place) o ≡ Some c
        → IsNumbered entries c
    go None found is = absurd (cc)
    go (Some d) found is =
        let same : d.place ≡ c = cc in
        subst (IsNumbered entries) same (found_with (λ c. IsNumbered entries c.place) (λ c. same_name name c.name) d (children entries p)
        (numbered_children entries p) found)
