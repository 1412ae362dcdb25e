-- What a walk over the words of a command keeps, if none of them is at fault. The main lemma is `walk_kept`, about a test on its rows;
-- it proceeds step by step as the walk does.
use Rattle.std.proofs.Common.{◌≡◌, ◌&&◌, ℕ, Bool, cond, true, false, not, zero, suc, refl, ap, List, [], ◌∷◌, ◌∙◌, length, Option, Some, None, is_some}
use Rattle.std.specs.Prelude.{slice_get}
use Rattle.std.specs.List.{find, fold, list_all}
use Rattle.std.specs.Option.{option_map_or}
use Rattle.std.specs.Str.{bytes_eq, chars}
use Rattle.clap.specs.Lexer.{long_of, short_of}
use Rattle.clap.specs.Kinds.{Kinds, or_else}
use Rattle.clap.specs.Faults.{bundle_fault, bundle_step_fault, flag_word_fault, flags_fault, long_fault, option_fault, other_fault, positional_fault, react_fault, settle_fault, short_fault, step_fault, stray_fault, turn_fault, use_fault, walk_fault, word_fault}
use Rattle.clap.specs.Simple.{Shape}
use Rattle.clap.specs.Walk.{Held, Names, Outcome, Row, Rule, Step, Text, Waiting, Walk, after_flag, after_step, arg_by_id, arg_by_index, arg_by_long, arg_by_short, attached_value, bundle, bundle_met, bundle_step, done, flag_met, idle, is_pending, long_met, long_or_other, next, option, option_met, option_word, plain, plain_word, positional, pushed, reacted, refused, settled, settled_rows, short_met, short_or_plain, subcommand, subcommand_met, subcommand_or_other, takes_several, takes_values, to_positional, trailing, used, used_by_id, value, waits, walked, walked_from, word_met}
use Rattle.clap.specs.declared.error.kind.ErrorKind.TheVariants as kind
use Rattle.clap.proofs.WalkLemmas.{both}

-- of two faults, one after the other, there is neither
pub neither : (a b : Kinds) → or_else a b ≡ [] → (a ≡ []) × (b ≡ [])
neither [] b e = (refl, e)
neither (k ∷ ks) b e = cc

and_true : (a b : Bool) → a ≡ true → b ≡ true → (a && b) ≡ true
and_true a b p q = rw (p, q) refl

-- a word that is no flag adds no row
plain_rows : (c : List Rule) (waiting : Waiting) (word : Text) (h : Held) → (plain_word c waiting word h).0.rows ≡ h.rows
plain_rows c idle word h = refl
plain_rows c positional word h = refl
plain_rows c (option id) word h = go (arg_by_id c id)
  where
    go : (o : Option Rule) → (option_word o id word h).0.rows ≡ h.rows
    go None = refl
    go (Some a) = refl

after_rows : (c : List Rule) (waiting : Waiting) (word : Text) (h : Held) (met : Outcome) → (after_flag c waiting word h met).0.rows
    ≡ h.rows
after_rows c waiting word h done = refl
after_rows c waiting word h (waits id) = refl
after_rows c waiting word h plain = plain_rows c waiting word h
after_rows c waiting word h refused = plain_rows c waiting word h

-- ---- what holds of each row before a word that is not at fault holds after it

module _ (test : Row → Bool) (fits : Rule → Bool) (s : Shape)
    (kept : (a : Rule) (vs : List Text) (rows : List Row) → fits a ≡ true
    → use_fault s.args_override_self a vs rows ≡ [] → list_all test rows ≡ true
    → list_all test (used a vs rows) ≡ true)
    (fit : list_all fits s.rules ≡ true) where
  abbrev fits_if_found : Option Rule → Bool
  fits_if_found o = option_map_or fits o true

  found_fits : (p : Rule → Bool) (c : List Rule) → list_all fits c ≡ true → fits_if_found (find p c) ≡ true
  found_fits p [] all = refl
  found_fits p (a ∷ rest) all = go (p a) (found_fits p rest (both _ _ all).1)
    where
      go : (b : Bool) → fits_if_found (find p rest) ≡ true → fits_if_found (cond b (Some a) (find p rest)) ≡ true
      go true later = (both _ _ all).0
      go false later = later

  by_id_kept : (o : Option Rule) (vs : List Text) (rows : List Row) → fits_if_found o ≡ true
      → option_map_or (λ a. use_fault s.args_override_self a vs rows) o [] ≡ []
      → list_all test rows ≡ true → list_all test (used_by_id o vs rows) ≡ true
  by_id_kept None vs rows one e before = before
  by_id_kept (Some a) vs rows one e before = kept a vs rows one e before

  -- what the words were waiting for is settled, and the test holds of each row after it
  pub settle_kept : (h : Held) → settle_fault s.rules s.args_override_self h ≡ [] → list_all test h.rows ≡ true
      → list_all test (settled s.rules h).rows ≡ true
  settle_kept h e before = go h.pending e
    where
      go : (o : Option (Text × List Text))
          → option_map_or (λ p. option_map_or (λ a. use_fault s.args_override_self a p.1 h.rows) (arg_by_id s.rules p.0) []) o []
          ≡ []
          → list_all test (settled_rows s.rules o h.rows) ≡ true
      go None e = before
      go (Some p) e = by_id_kept (arg_by_id s.rules p.0) p.1 h.rows (found_fits _ s.rules fit) e before

  react_kept : (a : Rule) (vs : List Text) (h : Held) → fits a ≡ true → react_fault s.rules s.args_override_self a vs h ≡ []
      → list_all test h.rows ≡ true
      → list_all test (reacted s.rules a vs h).rows ≡ true
  react_kept a vs h one e before =
      let n = neither _ _ e in
      kept a vs (settled s.rules h).rows one n.1 (settle_kept h n.0 before)

  option_kept : (a : Rule) (v : Option Text) (h : Held) → fits a ≡ true → option_fault s.rules s.args_override_self a v h ≡ []
      → list_all test h.rows ≡ true
      → list_all test (option_met s.rules a v h).0.rows ≡ true
  option_kept a (Some v) h one e before = react_kept a (v ∷ []) h one e before
  option_kept a None h one e before = settle_kept h e before

  flag_kept : (a : Rule) (v : Option Text) (h : Held) → fits a ≡ true
      → cond (is_some v) (kind.TooManyValues ∷ []) (react_fault s.rules s.args_override_self a [] h) ≡ []
      → list_all test h.rows ≡ true → list_all test (flag_met s.rules a v h).0.rows ≡ true
  flag_kept a (Some v) h one e before = before
  flag_kept a None h one e before = react_kept a [] h one e before

  long_kept : (o : Option Rule) (v : Option Text) (h : Held) → fits_if_found o ≡ true
      → long_fault s.rules s.args_override_self o v h ≡ [] → list_all test h.rows ≡ true
      → list_all test (long_met s.rules o v h).0.rows ≡ true
  long_kept None v h one e before = before
  long_kept (Some a) v h one e before = go (takes_values a) e
    where
      go : (b : Bool)
          → cond b (option_fault s.rules s.args_override_self a v h)
          (cond (is_some v) (kind.TooManyValues ∷ []) (react_fault s.rules s.args_override_self a [] h))
          ≡ []
          → list_all test (cond b (option_met s.rules a v h) (flag_met s.rules a v h)).0.rows ≡ true
      go true e = option_kept a v h one e before
      go false e = flag_kept a v h one e before

  short_kept : (o : Option Rule) (rest : Text) (h : Held) (on : Held → Held × Outcome) (fault : Held → Kinds) → fits_if_found o ≡ true
      → ((g : Held) → fault g ≡ [] → list_all test g.rows ≡ true → list_all test (on g).0.rows ≡ true)
      → short_fault s.rules s.args_override_self o rest h fault ≡ [] → list_all test h.rows ≡ true
      → list_all test (short_met s.rules o rest h on).0.rows ≡ true
  short_kept None rest h on fault one after e before = before
  short_kept (Some a) rest h on fault one after e before = go (takes_values a) e
    where
      go : (b : Bool)
          → cond b (option_fault s.rules s.args_override_self a (attached_value rest) h)
          (or_else (react_fault s.rules s.args_override_self a [] h) (fault (reacted s.rules a [] h)))
          ≡ []
          → list_all test (cond b (option_met s.rules a (attached_value rest) h) (on (reacted s.rules a [] h))).0.rows ≡ true
      go true e = option_kept a (attached_value rest) h one e before
      go false e =
          let n = neither _ _ e in
          after (reacted s.rules a [] h) n.1 (react_kept a [] h one n.0 before)

  flags_kept : (k : ℕ) (flags : Text) (skip : ℕ) (so_far : Outcome) (h : Held)
      → flags_fault s.rules s.args_override_self k flags skip h ≡ [] → list_all test h.rows ≡ true
      → list_all test (bundle_met s.rules k flags skip so_far h).0.rows ≡ true
  unfolding flags_fault bundle_met
  flags_kept zero flags skip so_far h e before = before
  flags_kept (suc k) flags skip so_far h e before = go (slice_get (chars flags) 0) skip (λ f n o g. flags_kept k f n o g) e
    where
      go : (o : Option ℕ) (skip : ℕ)
          → ((f : Text) (n : ℕ) (so_far : Outcome) (g : Held)
          → flags_fault s.rules s.args_override_self k f n g ≡ [] → list_all test g.rows ≡ true
          → list_all test (bundle_met s.rules k f n so_far g).0.rows ≡ true)
          → bundle_step_fault s.rules s.args_override_self o flags skip h
          (flags_fault s.rules s.args_override_self k) ≡ []
          → list_all test (bundle_step s.rules o flags skip so_far h (bundle_met s.rules k)).0.rows ≡ true
      go None skip later e = before
      go (Some x) zero later e = short_kept (arg_by_short s.rules x) _ h _ _ (found_fits _ s.rules fit) (λ g. later _ 0 done g) e before
      go (Some x) (suc skip) later e = later _ skip so_far h e before

  flag_word_kept : (waiting : Waiting) (word : Text) (o : Option (Text × Option Text)) (h : Held)
      → flag_word_fault s.rules s.args_override_self o word h ≡ [] → list_all test h.rows ≡ true
      → list_all test (long_or_other s.rules waiting word o h).0.rows ≡ true
  flag_word_kept waiting word (Some p) h e before =
      let met = long_met s.rules (arg_by_long s.rules p.0) p.1 h in
      ap (list_all test) (after_rows s.rules waiting word met.0 met.1)
      ∙ long_kept (arg_by_long s.rules p.0) p.1 h (found_fits _ s.rules fit) e before
  flag_word_kept waiting word None h e before = go (short_of word) e
    where
      go : (o : Option Text) → option_map_or (λ flags. bundle_fault s.rules s.args_override_self flags h) o [] ≡ []
          → list_all test (short_or_plain s.rules waiting word o h).0.rows ≡ true
      go None e = ap (list_all test) (plain_rows s.rules waiting word h) ∙ before
      go (Some flags) e =
          let met = bundle s.rules flags h in
          ap (list_all test) (after_rows s.rules waiting word met.0 met.1)
          ∙ flags_kept (length flags) flags h.skip plain (record h { skip = 0 }) e before

  other_kept : (o : Option Text) (waiting : Waiting) (position : ℕ) (word : Text) (h : Held) → other_fault s o word h ≡ []
      → list_all test h.rows ≡ true
      → list_all test (subcommand_or_other s.rules o waiting position word h).0.rows ≡ true
  other_kept (Some name) waiting position word h e before = before
  other_kept None waiting position word h e before = go (bytes_eq word (45 ∷ 45 ∷ [])) e
    where
      go : (b : Bool) → cond b [] (flag_word_fault s.rules s.args_override_self (long_of word) word h) ≡ []
          → list_all test (cond b (h, trailing position) (long_or_other s.rules waiting word (long_of word) h)).0.rows ≡ true
      go true e = before
      go false e = flag_word_kept waiting word (long_of word) h e before

  word_kept : (names : Names) (is_trailing : Bool) (waiting : Waiting) (position : ℕ) (word : Text) (h : Held)
      → word_fault s names is_trailing waiting word h ≡ [] → list_all test h.rows ≡ true
      → list_all test (word_met s.rules names is_trailing waiting position word h).0.rows ≡ true
  word_kept names true waiting position word h e before = before
  word_kept names false waiting position word h e before = other_kept (subcommand_met names waiting word) waiting position word h e before

  to_positional_kept : (o : Option Rule) (word : Text) (w : Walk) (h : Held)
      → option_map_or (λ a. positional_fault s.rules s.args_override_self a h) o (stray_fault s) ≡ [] → list_all test h.rows ≡ true
      → list_all test (to_positional s.rules o word w h).held.rows ≡ true
  to_positional_kept None word w h e before = before
  to_positional_kept (Some a) word w h e before = go (is_pending a h.pending && takes_several a) e
    where
      go : (b : Bool) → cond b [] (settle_fault s.rules s.args_override_self h) ≡ []
          → list_all test (pushed a.id word (cond b h (settled s.rules h))).rows ≡ true
      go true e = before
      go false e = settle_kept h e before

  after_kept : (word : Text) (w : Walk) (h : Held) (step : Step) → step_fault s w.position h step ≡ [] → list_all test h.rows ≡ true
      → list_all test (after_step s.rules word w h step).held.rows ≡ true
  after_kept word w h (next waiting) e before = before
  after_kept word w h (trailing position) e before = before
  after_kept word w h (subcommand name) e before = before
  after_kept word w h value e before = to_positional_kept (arg_by_index s.rules w.position) word w h e before

  turn_kept : (names : Names) (w : Walk) (word : Text) → turn_fault s names w word ≡ [] → list_all test w.held.rows ≡ true
      → list_all test (walked_from s.rules names w.stopped w word).held.rows ≡ true
  turn_kept names w word e before = go w.stopped e
    where
      go : (o : Option (Text × List Text))
          → cond (is_some o) [] (or_else (word_fault s names w.is_trailing w.waiting word w.held)
          (step_fault s w.position (word_met s.rules names w.is_trailing w.waiting w.position word w.held).0
          (word_met s.rules names w.is_trailing w.waiting w.position word w.held).1)) ≡ []
          → list_all test (walked_from s.rules names o w word).held.rows ≡ true
      go (Some p) e = before
      go None e =
          let n = neither _ _ e in
          after_kept word w _ _ n.1 (word_kept names w.is_trailing w.waiting w.position word w.held n.0 before)

  -- the test holds of each row at the end
  pub walk_kept : (names : Names) (w : Walk) (words : List Text) → walk_fault s names w words ≡ [] → list_all test w.held.rows ≡ true
      → list_all test (fold (walked s.rules names) w words).held.rows ≡ true
  unfolding walk_fault walked
  walk_kept names w [] e before = before
  walk_kept names w (word ∷ rest) e before =
      let n = neither _ _ e in
      walk_kept names (walked s.rules names w word) rest n.1 (turn_kept names w word n.0 before)
