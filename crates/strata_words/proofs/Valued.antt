-- How the rows of a command are filled: those of the flags with their truth, each other with a
-- value. Each use of an option (`used_filled`) and each default value keeps them so; `some_value`
-- and `rows_filled` say what can then be read of them.
use Rattle.std.proofs.Common.{◌≡◌, ◌==◌, ◌&&◌, ◌||◌, ◌∙◌, ℕ, Bool, cond, codes, true, false, refl, sym, ap, arith, subst, eqb-true, List, [], ◌∷◌, ◌++◌, length, true≢false, nat_lt, MatchOption, Option, Some, None, is_some, option_map, unwrap_or}
use Rattle.std.specs.Prelude.{find, option_and_then, slice_get}
use Rattle.std.specs.List.{fold, list_all}
use Rattle.std.specs.Option.{option_map_or}
use Rattle.std.specs.Str.{bytes_eq}
use Rattle.std.proofs.lemmas.List.{append-nil}
use Rattle.std.proofs.lemmas.List.Folds.{list_all-append}
use Rattle.std.proofs.lemmas.Slice.Eq.{bytes_eq-Decides}
use Rattle.clap.specs.Facts.{explicit_source, unwrap_or_range}
use Rattle.clap.specs.Kinds.{range_kinds}
use Rattle.clap.specs.Faults.{action_fault, repeat_fault, use_fault, values_fault}
use Rattle.clap.specs.Takes.{is_given}
use Rattle.clap.specs.Values.{bool_text, read_as}
use Rattle.clap.specs.Walk.{Row, Rule, Text, action_of, at_row, default_rows, first_of, has_row, more_values, most_values, reading_by, row_text, stronger, used, used_as, values_or_missing, with_default, with_values, without}
use Rattle.clap.specs.declared.builder.action.ArgAction.{ArgAction}
use Rattle.clap.specs.declared.builder.action.ArgAction.TheVariants as action
use Rattle.clap.specs.declared.builder.value_parser.Reading.{Reading}
use Rattle.clap.specs.declared.builder.value_parser.Reading.TheVariants as reading
use Rattle.clap.specs.declared.error.kind.ErrorKind.TheVariants as kind
use Rattle.clap.specs.declared.parser.matches.ValueSource.{ValueSource}
use Rattle.clap.specs.declared.parser.matches.ValueSource.TheVariants.{CommandLine, DefaultValue}
use Rattle.clap.proofs.WalkLemmas.{both}
use Rattle.strata_words.specs.CommandLine.{IsFilled, is_flag}
use Rattle.strata_words.proofs.Walked.{neither}

and_true : (a b : Bool) → a ≡ true → b ≡ true → (a && b) ≡ true
and_true a b p q = rw (p, q) refl

-- ---- filled rows

-- there is a value
abbrev some_text : List Text → Bool
some_text [] = false
some_text (v ∷ vs) = true

abbrev not_some : List Text → Bool
not_some [] = true
not_some (v ∷ vs) = false

-- the text is the only value
abbrev is_only : Text → List Text → Bool
is_only text [] = false
is_only text (v ∷ []) = bytes_eq v text
is_only text (v ∷ w ∷ ws) = false

abbrev is_as_written : Reading → Bool
is_as_written reading.AsWritten = true
is_as_written _ = false

-- the row of a flag holds its truth, and another row has a value
abbrev is_filled : Row → Bool
is_filled r = cond (is_flag r.id) (is_as_written r.reading && is_only (bool_text (explicit_source r.source)) r.values)
    (some_text r.values)

-- each row is filled
abbrev pub all_filled : List Row → Bool
all_filled = list_all is_filled

-- ---- a row more, or more values of a row

-- if there is no such row, one comes at the end
at_row_none : (id : Text) (change : Row → List Row) (missing rows : List Row) → has_row id rows ≡ false → at_row id change missing rows
    ≡ rows ++ missing
at_row_none id change missing [] none = refl
at_row_none id change missing (r ∷ rs) none = go (bytes_eq r.id id) none (at_row_none id change missing rs)
  where
    go : (b : Bool) → (b || has_row id rs) ≡ false → (has_row id rs ≡ false → at_row id change missing rs ≡ rs ++ missing)
        → cond b (change r ++ rs) (r ∷ at_row id change missing rs) ≡ r ∷ (rs ++ missing)
    go true none rest = absurd (true≢false none)
    go false none rest = ap (λ rows. r ∷ rows) (rest none)

without_none : (id : Text) (rows : List Row) → has_row id rows ≡ false → without id rows ≡ rows
without_none id rows none = at_row_none id (λ _. []) [] rows none ∙ append-nil rows

abbrev new_row : Text → Reading → ValueSource → List Text → Row
new_row id how s values = record { id = id; values = values; count = None; source = Some s; reading = how }

-- a new row that is filled keeps all filled
added_filled : (id : Text) (how : Reading) (s : ValueSource) (values : List Text) (rows : List Row) → has_row id rows ≡ false
    → is_filled (new_row id how s values) ≡ true → all_filled rows ≡ true → all_filled (with_values id how s values rows) ≡ true
added_filled id how s values rows none new filled =
    ap all_filled (at_row_none id (more_values s values) (new_row id how s values ∷ []) rows none)
    ∙ list_all-append is_filled rows (new_row id how s values ∷ []) ∙ and_true _ _ filled (and_true _ _ new refl)

set_filled : (id : Text) (how : Reading) (s : ValueSource) (values : List Text) (rows : List Row) → has_row id rows ≡ false
    → is_filled (new_row id how s values) ≡ true → all_filled rows ≡ true → all_filled (with_values id how s values (without id rows))
    ≡ true
set_filled id how s values rows none new filled =
    subst (λ rs. all_filled (with_values id how s values rs) ≡ true) (sym (without_none id rows none))
    (added_filled id how s values rows none new filled)

some_more : (old : List Text) (v : Text) (vs : List Text) → some_text (old ++ v ∷ vs) ≡ true
some_more [] v vs = refl
some_more (w ∷ ws) v vs = refl

-- another row than that of a flag is filled by a value
value_filled : (r : Row) (id : Text) → is_flag id ≡ false → bytes_eq r.id id ≡ true → some_text r.values ≡ true → is_filled r ≡ true
value_filled r id other same value =
    let id_is : r.id ≡ id = (bytes_eq-Decides r.id id).0 same in
    rw (ap (λ t. is_flag t) id_is ∙ other) value

module _ (id : Text) (how : Reading) (s : ValueSource) (v : Text) (vs : List Text) (other : is_flag id ≡ false) where
  -- more values keep all filled
  more_filled : (rows : List Row) → all_filled rows ≡ true → all_filled (with_values id how s (v ∷ vs) rows) ≡ true
  more_filled [] filled = and_true _ _ (rw other refl) refl
  more_filled (r ∷ rs) filled = go (bytes_eq r.id id) refl (more_filled rs (both _ _ filled).1)
    where
      go : (b : Bool) → bytes_eq r.id id ≡ b → all_filled (with_values id how s (v ∷ vs) rs) ≡ true
          → all_filled (cond b (more_values s (v ∷ vs) r ++ rs) (r ∷ with_values id how s (v ∷ vs) rs)) ≡ true
      go true same rest = and_true _ _ (value_filled
          (record r { values = r.values ++ v ∷ vs; source = Some (stronger r.source s) }) id other same
          (some_more r.values v vs)) (both _ _ filled).1
      go false same rest = and_true _ _ (both _ _ filled).0 rest

-- ---- rules that fill each row

abbrev least : Rule → ℕ
least a = (unwrap_or_range a.range).start_inclusive

-- the action adds no row
abbrev is_help : ArgAction → Bool
is_help action.Help = true
is_help _ = false

abbrev is_set_true : ArgAction → Bool
is_set_true action.SetTrue = true
is_set_true _ = false

abbrev keeps_values : ArgAction → Bool
keeps_values action.Set = true
keeps_values action.Append = true
keeps_values _ = false

-- a use of the flag says `true`
abbrev is_flag_rule : Rule → Bool
is_flag_rule a = (least a == 0 && most_values a == 0) && (is_as_written (reading_by a) && is_only (codes "true") a.missing)

-- a use of the argument fills its row, or adds none
abbrev pub fills : Rule → Bool
fills a = is_help (action_of a) || cond (is_flag a.id) (is_set_true (action_of a) && is_flag_rule a)
    (keeps_values (action_of a) && nat_lt 0 (least a))

-- its default values, if any, are those of the flag
abbrev pub fills_default : Rule → Bool
fills_default a = not_some a.defaults || (is_flag a.id && (is_as_written (reading_by a) && is_only (codes "false") a.defaults))

no_values : (n : ℕ) → range_kinds 0 0 n ≡ [] → n ≡ 0
no_values n e = sym (eqb-true 0 n (go (0 == n) e))
  where
    go : (b : Bool) → cond b [] (kind.WrongNumberOfValues ∷ []) ≡ [] → b ≡ true
    go true e = refl
    go false e = cc

not_repeated : (id : Text) (rows : List Row) → repeat_fault false id rows ≡ [] → has_row id rows ≡ false
not_repeated id rows e = go (has_row id rows) e
  where
    go : (b : Bool) → cond (b && true) (kind.ArgumentConflict ∷ []) [] ≡ [] → b ≡ false
    go true e = cc
    go false e = refl

-- a use that is not at fault keeps each row filled
pub used_filled : (a : Rule) (vs : List Text) (rows : List Row) → fills a ≡ true → use_fault false a vs rows ≡ [] → all_filled rows ≡ true
    → all_filled (used a vs rows) ≡ true
used_filled a vs rows fit e filled =
    let parts = neither (range_kinds (least a) (most_values a) (length vs))
    (action_fault (action_of a) false a (values_or_missing a vs) rows) e in
    go (action_of a) (is_flag a.id) refl fit parts.0 parts.1
  where
    no_range : (vs : List Text) → (least a == 0 && most_values a == 0) ≡ true → range_kinds (least a) (most_values a) (length vs) ≡ []
        → length vs ≡ 0
    no_range vs ends range =
        let P : ℕ → ℕ → Type 0 = λ low high. range_kinds low high (length vs) ≡ [] in
        let tests = both (least a == 0) (most_values a == 0) ends in
        let high_is : P (least a) 0 = subst (λ high. P (least a) high) (eqb-true (most_values a) 0 tests.1) range in
        no_values (length vs) (subst (λ low. P low 0) (eqb-true (least a) 0 tests.0) high_is)

    flag : (vs : List Text) → is_flag a.id ≡ true → is_flag_rule a ≡ true → range_kinds (least a) (most_values a) (length vs) ≡ []
        → has_row a.id rows ≡ false → all_filled (with_values a.id (reading_by a) CommandLine (values_or_missing a vs) (without a.id rows))
        ≡ true
    flag [] is fit range none = set_filled a.id (reading_by a) CommandLine a.missing rows none
        (rw is (both (least a == 0 && most_values a == 0) _ fit).1) filled
    flag (v ∷ vs) is fit range none =
        let none : length (v ∷ vs) ≡ 0 = no_range (v ∷ vs) (both (least a == 0 && most_values a == 0) _ fit).0 range in
        absurd (omega arith)

    no_value : nat_lt 0 (least a) ≡ true → range_kinds (least a) (most_values a) 0 ≡ [] → ⊥
    no_value asks range =
        let bad : range_kinds (least a) (most_values a) 0 ≡ kind.InvalidValue ∷ [] = rw asks refl in
        cc

    set : (vs : List Text) → is_flag a.id ≡ false → nat_lt 0 (least a) ≡ true → range_kinds (least a) (most_values a) (length vs) ≡ []
        → has_row a.id rows ≡ false → all_filled (with_values a.id (reading_by a) CommandLine (values_or_missing a vs) (without a.id rows))
        ≡ true
    set [] is asks range none = absurd (no_value asks range)
    set (v ∷ vs) is asks range none = set_filled a.id (reading_by a) CommandLine (v ∷ vs) rows none (rw is refl) filled

    append : (vs : List Text) → is_flag a.id ≡ false → nat_lt 0 (least a) ≡ true → range_kinds (least a) (most_values a) (length vs) ≡ []
        → all_filled (with_values a.id (reading_by a) CommandLine (values_or_missing a vs) rows) ≡ true
    append [] is asks range = absurd (no_value asks range)
    append (v ∷ vs) is asks range = more_filled a.id (reading_by a) CommandLine v vs is rows filled

    repeats : repeat_fault false a.id rows ≡ [] → has_row a.id rows ≡ false
    repeats e = not_repeated a.id rows e

    go : (x : ArgAction) (b : Bool) → is_flag a.id ≡ b
        → (is_help x || cond b (is_set_true x && is_flag_rule a) (keeps_values x && nat_lt 0 (least a))) ≡ true
        → range_kinds (least a) (most_values a) (length vs) ≡ [] → action_fault x false a (values_or_missing a vs) rows ≡ []
        → all_filled (used_as x a.id (reading_by a) (values_or_missing a vs) rows) ≡ true
    go action.Help b is fit range e = filled
    go action.SetTrue true is fit range e = flag vs is fit range
        (repeats (neither (repeat_fault false a.id rows) (values_fault a (values_or_missing a vs)) e).0)
    go action.Set false is fit range e = set vs is fit range
        (repeats (neither (repeat_fault false a.id rows) (values_fault a (values_or_missing a vs)) e).0)
    go action.Append false is fit range e = append vs is fit range
    go _ true is fit range e = absurd (true≢false (sym fit))
    go _ false is fit range e = absurd (true≢false (sym fit))

-- ---- default values

default_filled : (a : Rule) (rows : List Row) → fills_default a ≡ true → all_filled rows ≡ true → all_filled (with_default rows a) ≡ true
default_filled a rows fit filled = go (has_row a.id rows) refl a.defaults fit
  where
    go : (b : Bool) → has_row a.id rows ≡ b → (ds : List Text)
        → (not_some ds || (is_flag a.id && (is_as_written (reading_by a) && is_only (codes "false") ds))) ≡ true
        → all_filled (cond b rows (default_rows a.id (reading_by a) ds rows)) ≡ true
    go true is ds fit = filled
    go false is [] fit = filled
    go false is (d ∷ ds) fit =
        let tests = both (is_flag a.id) _ fit in
        added_filled a.id (reading_by a) DefaultValue (d ∷ ds) rows is (rw tests.0 tests.1) filled

-- the default values keep each row filled
pub defaults_filled : (c : List Rule) (rows : List Row) → list_all fills_default c ≡ true
    → all_filled rows ≡ true → all_filled (fold with_default rows c) ≡ true
defaults_filled [] rows fit filled = filled
defaults_filled (a ∷ rest) rows fit filled =
    defaults_filled rest (with_default rows a) (both _ _ fit).1 (default_filled a rows (both _ _ fit).0 filled)

-- ---- what filled rows give

-- the row that is found for this id is filled
found_filled : (id : Text) (rows : List Row) → all_filled rows ≡ true
    → option_map_or (λ r. bytes_eq r.id id && is_filled r) (find (λ r. bytes_eq r.id id) rows) true ≡ true
found_filled id [] filled = refl
found_filled id (r ∷ rest) filled = go (bytes_eq r.id id) refl (found_filled id rest (both _ _ filled).1)
  where
    go : (b : Bool) → bytes_eq r.id id ≡ b → option_map_or (λ r. bytes_eq r.id id && is_filled r) (find (λ r. bytes_eq r.id id) rest) true
        ≡ true
        → option_map_or (λ r. bytes_eq r.id id && is_filled r) (cond b (Some r) (find (λ r. bytes_eq r.id id) rest)) true ≡ true
    go true same later = and_true _ _ same (both _ _ filled).0
    go false same later = later

-- a filled row with this id holds what the id asks: the truth of a flag, or otherwise a value
held_by : (id : Text) (r : Row) (b : Bool) → is_flag id ≡ b → (bytes_eq r.id id && is_filled r) ≡ true
    → cond b (is_as_written r.reading && is_only (bool_text (explicit_source r.source)) r.values) (some_text r.values) ≡ true
held_by id r b flag passes =
    let tests = both (bytes_eq r.id id) _ passes in
    let id_is : r.id ≡ id = (bytes_eq-Decides r.id id).0 tests.0 in
    let is : is_flag r.id ≡ b = ap (λ t. is_flag t) id_is ∙ flag in
    let P : Bool → Type 0 = λ b. cond b (is_as_written r.reading && is_only (bool_text (explicit_source r.source)) r.values)
    (some_text r.values) ≡ true in
    subst P is tests.1

-- the values of another row than that of a flag
given_value : (id : Text) → is_flag id ≡ false → (o : Option Row) → option_map_or (λ r. bytes_eq r.id id && is_filled r) o true ≡ true
    → option_map_or (λ r. explicit_source r.source) o false ≡ true
    → (first : Text) × (rest : List Text) × (option_map (λ (r : Row). r.values) o ≡ Some (first ∷ rest))
given_value id other None passes given = absurd (true≢false (sym given))
given_value id other (Some r) passes given = go r.values (held_by id r false other passes)
  where
    go : (vs : List Text) → some_text vs ≡ true → (first : Text) × (rest : List Text) × (Some vs ≡ Some (first ∷ rest))
    go [] e = absurd (true≢false (sym e))
    go (v ∷ vs) e = (v, vs, refl)

first_value : (o : Option Row) (first : Text) (rest : List Text) → option_map (λ (r : Row). r.values) o ≡ Some (first ∷ rest)
    → is_some (option_and_then (λ (r : Row). slice_get r.values 0) o) ≡ true
first_value None first rest e = ap (λ o. is_some o) e
first_value (Some r) first rest e = ap (λ o. is_some (slice_get (unwrap_or o []) 0)) e

-- another option than a flag has a value, if it is given
pub some_value : (id : Text) (rows : List Row) → is_flag id ≡ false → all_filled rows ≡ true → is_given id rows ≡ true
    → is_some (first_of id rows) ≡ true
some_value id rows other filled given =
    let value = given_value id other (find (λ r. bytes_eq r.id id) rows) (found_filled id rows filled) given in
    first_value (find (λ r. bytes_eq r.id id) rows) value.0 value.1 value.2

-- what a flag reads of its row is whether it was given
abbrev ReadsFlag : Option Row → Type 0
ReadsFlag o = MatchOption (option_and_then row_text o) (option_map_or (λ r. explicit_source r.source) o false ≡ false)
    (λ text. text ≡ bool_text (option_map_or (λ r. explicit_source r.source) o false))

flag_text : (id : Text) → is_flag id ≡ true → (o : Option Row) → option_map_or (λ r. bytes_eq r.id id && is_filled r) o true ≡ true
    → ReadsFlag o
flag_text id flag None passes = refl
flag_text id flag (Some r) passes = text r.reading r.values (explicit_source r.source) (held_by id r true flag passes)
  where
    text : (how : Reading) (vs : List Text) (given : Bool) → (is_as_written how && is_only (bool_text given) vs) ≡ true
        → MatchOption (option_map (read_as how) (slice_get vs 0)) (given ≡ false) (λ t. t ≡ bool_text given)
    text reading.AsWritten [] given e = absurd (true≢false (sym e))
    text reading.AsWritten (v ∷ []) given e = (bytes_eq-Decides v (bool_text given)).0 e
    text reading.AsWritten (v ∷ w ∷ ws) given e = absurd (true≢false (sym e))
    text _ vs given e = absurd (true≢false (sym e))

-- rows that are filled, if an image is given
pub rows_filled : (rows : List Row) → all_filled rows ≡ true → is_given (codes "image") rows ≡ true → IsFilled rows
rows_filled rows filled given =
    let image = given_value (codes "image") refl (find (λ r. bytes_eq r.id (codes "image")) rows) (found_filled (codes "image") rows filled)
    given in
    record {
      first = image.0;
      rest = image.1;
      images = image.2;
      flags = λ id flag. flag_text id flag (find (λ r. bytes_eq r.id id) rows) (found_filled id rows filled);
    }
