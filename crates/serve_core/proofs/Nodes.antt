-- What requests need of a stack's nodes depends only on places of its entries.
use Rattle.std.proofs.Common.{◌≡◌, sym, subst, ℕ, zero, suc, ◌+◌, ◌-◌, inl, inr, List, [], ◌∷◌, Bool, true, false, length, take, drop, Option, Some, None, refl, if◌then◌else◌}
use Rattle.std.specs.Prelude.{find}
use Rattle.std.specs.List.{AllByRecursion, filter_map, enumerate_from}
use Rattle.std.specs.Option.{option_map, option_map_or}
use Rattle.std.specs.List.{cons_option}
use Rattle.stack_model.specs.Stack.{Path}
use Rattle.stack_model.specs.Listing.{Entry, IsAmong}
use Rattle.stack_model.specs.Numbers.{Place, place, Child, node_of, parent, path_of, same_path, same_name, name_below, child_in, children, child}
use Rattle.stack_model.proofs.Numbering.{number_listed}
use Rattle.reply_model.specs.Rows.{Row, rows, rows_after}
use Rattle.reply_model.specs.Lookups.{is_itself, is_parent, looked_up}

-- the place is that of some entry
abbrev pub IsNode : List Entry → Place → Type 0
IsNode entries p = (e : Entry) × IsAmong e entries × (place e ≡ p)

pub used_node : (entries : List Entry) (n : ℕ) (p : Place) → node_of entries n ≡ Some p → IsNode entries p
used_node entries n p e = number_listed entries n p e

-- what is found is in the list
found_first : (x : Entry) (es : List Entry) (e : Entry) (r : Option Entry) (t : Bool) → (r ≡ Some e → IsAmong e es)
    → (if t then Some x else r) ≡ Some e → IsAmong e (x ∷ es)
found_first x es e r true f i = inl (let z : Some e ≡ Some x = sym i in cc)
found_first x es e r false f i = inr (f i)

found : (f : Entry → Bool) (es : List Entry) (e : Entry) → find f es ≡ Some e → IsAmong e es
found f [] e is = absurd (cc)
found f (x ∷ es) e is = found_first x es e (find f es) (f x) (found f es e) is

pub parent_node : (entries : List Entry) (p : Place) → IsNode entries p → IsNode entries (parent entries p)
unfolding parent
parent_node entries p n = told (find _ entries) refl
  where
    told : (o : Option Entry) → find (λ e. same_path (take (length (path_of entries p) - 1) (path_of entries p)) e.path) entries ≡ o
        → IsNode entries (option_map_or place o p)
    told None i = n
    told (Some e) i = (e, found _ entries e i, refl)

abbrev pub AreNodes : List Entry → List Child → Type 0
AreNodes entries cs = AllByRecursion (λ (c : Child). IsNode entries c.place) cs

-- a row that is added, if one is
added : (entries : List Entry) (o : Option Child) (cs : List Child) → ((c : Child) → o ≡ Some c → IsNode entries c.place)
    → AreNodes entries cs → AreNodes entries (cons_option o cs)
added entries None cs f a = a
added entries (Some c) cs f a = (f c refl, a)

child_place : (entries : List Entry) (e : Entry) (o : Option (List ℕ)) (c : Child) → IsNode entries (place e)
    → option_map (λ n. (let d : Child = record { name = n; place = place e } in d)) o ≡ Some c → IsNode entries c.place
child_place entries e None c n i = absurd (cc)
child_place entries e (Some m) c n i =
    let x : Child = record { name = m; place = place e } in
    subst (λ (d : Child). IsNode entries d.place) (let z : Some x ≡ Some c = i in let w : x ≡ c = cc in w) n

each_child : (entries : List Entry) (top : Path) (es : List Entry) → ((e : Entry) → IsAmong e es → IsAmong e entries)
    → AreNodes entries (filter_map (child_in top) es)
each_child entries top [] f = tt
each_child entries top (e ∷ es) f =
    added entries (child_in top e) (filter_map (child_in top) es)
    (λ c i. child_place entries e (name_below top e.path) c (e, f e (inl refl), refl) i)
    (each_child entries top es (λ g m. f g (inr m)))

pub children_nodes : (entries : List Entry) (p : Place) → AreNodes entries (children entries p)
unfolding children
children_nodes entries p = each_child entries (path_of entries p) entries (λ e m. m)

pub rows_nodes : (entries : List Entry) (p : Place) → IsNode entries p → AreNodes entries (rows entries p)
unfolding rows
rows_nodes entries p n = (n, (parent_node entries p n, children_nodes entries p))

abbrev pub RowsAreNodes : List Entry → List Row → Type 0
RowsAreNodes entries rs = AllByRecursion (λ (r : Row). IsNode entries r.1.place) rs

counted : (entries : List Entry) (n : ℕ) (cs : List Child) → AreNodes entries cs → RowsAreNodes entries (enumerate_from n cs)
counted entries n [] a = tt
counted entries n (c ∷ cs) a = (a.0, counted entries (n + 1) cs a.1)

dropped : (entries : List Entry) (n : ℕ) (rs : List Row) → RowsAreNodes entries rs → RowsAreNodes entries (drop n rs)
dropped entries zero rs a = a
dropped entries (suc n) [] a = tt
dropped entries (suc n) (r ∷ rs) a = dropped entries n rs a.1

pub after_nodes : (entries : List Entry) (p : Place) (offset : ℕ) → IsNode entries p → RowsAreNodes entries (rows_after entries p offset)
unfolding rows_after
after_nodes entries p offset n = dropped entries offset (enumerate_from 1 (rows entries p))
    (counted entries 1 (rows entries p) (rows_nodes entries p n))

first_child : (entries : List Entry) (x c : Child) (r : Option Child) (t : Bool) → IsNode entries x.place
    → (r ≡ Some c → IsNode entries c.place) → (if t then Some x else r) ≡ Some c → IsNode entries c.place
first_child entries x c r true n f i =
    subst (λ (d : Child). IsNode entries d.place) (let z : Some x ≡ Some c = i in let w : x ≡ c = cc in w) n
first_child entries x c r false n f i = f i

found_child : (f : Child → Bool) (entries : List Entry) (cs : List Child) → AreNodes entries cs → (c : Child) → find f cs ≡ Some c
    → IsNode entries c.place
found_child f entries [] a c is = absurd (cc)
found_child f entries (x ∷ cs) a c is = first_child entries x c (find f cs) (f x) a.0 (found_child f entries cs a.1 c) is

pub looked_node : (entries : List Entry) (export : Bool) (p : Place) (name : List ℕ) (c : Place) → IsNode entries p
    → looked_up entries export p name ≡ Some c → IsNode entries c
looked_node entries export p name c n is = told (is_itself export name) (is_parent export name) is
  where
    below : (o : Option Child) → find (λ c. same_name name c.name) (children entries p) ≡ o → option_map (λ (c : Child). c.place) o ≡ Some c
        → IsNode entries c
    below None i j = absurd (cc)
    below (Some d) i j = subst (λ q. IsNode entries q) (let z : Some d.place ≡ Some c = j in cc)
        (found_child _ entries (children entries p) (children_nodes entries p) d i)

    told : (x y : Bool) → (if x then Some p else if y then Some (parent entries p) else child entries p name) ≡ Some c → IsNode entries c
    told true y i = subst (λ q. IsNode entries q) (let z : Some p ≡ Some c = i in cc) n
    told false true i = subst (λ q. IsNode entries q) (let z : Some (parent entries p) ≡ Some c = i in cc) (parent_node entries p n)
    told false false i = below (find (λ c. same_name name c.name) (children entries p)) refl i
