-- The name of a LOOKUP. The definition cuts the body at its first zero byte; the code looks at the last byte, and from there back for
-- another zero, even into the header. `ended`, `unended` and `broken` are the three kinds of bodies, `named` what the search says about
-- each.
use Rattle.std.proofs.Common.{◌≡◌, ◌≢◌, ◌∙◌, sym, ap, subst, ℕ, suc, ◌+◌, ◌-◌, ◌<◌, ◌≤◌, inl, inr, List, [], ◌∷◌, length, take, drop, get_or, refl, arith, Option, Some, None, Bool, true, false, not, cond, ◌==◌, length-drop}
use Rattle.std.specs.List.{position_or_len}
use Rattle.std.specs.Option.{option_map}
use Rattle.std.proofs.lemmas.Bool.{cases_lt, eqb-true}
use Rattle.std.proofs.lemmas.Bool.Decides.{nat_tests}
use Rattle.std.proofs.lemmas.List.{drop_all, length-take-le, get_or-take, get_or-drop}
use Rattle.std.proofs.lemmas.List.Sums.{position_or_len_is, fails_before_first}
use Rattle.memchr.specs.Find.{IsLastByte, is_byte}
use Rattle.fuse_wire.specs.Requests.{cut_at_zero, body_name}

-- how many bytes precede the first zero byte
abbrev before : List ℕ → ℕ
before body = position_or_len (λ byte. byte == 0) body

take_next : (n b : ℕ) (body : List ℕ) → take (1 + n) (b ∷ body) ≡ b ∷ take n body
take_next n b body = let e : 1 + n ≡ suc n = omega arith in rw e refl

drop_next : (n b : ℕ) (body : List ℕ) → drop (1 + n + 1) (b ∷ body) ≡ drop (n + 1) body
drop_next n b body = let e : 1 + n + 1 ≡ suc (n + 1) = omega arith in rw e refl

cut_step : (b : ℕ) (body : List ℕ) (t : Bool) → cond (not t) (1 + before body) 0 < suc (length body)
    → (before body < length body → cut_at_zero body ≡ Some (take (before body) body, drop (before body + 1) body))
    → cond {A = Option (List ℕ × List ℕ)} t (Some ([], body)) (option_map (λ cut. (b ∷ cut.0, cut.1)) (cut_at_zero body))
    ≡ Some (take (cond (not t) (1 + before body) 0) (b ∷ body), drop (cond (not t) (1 + before body) 0 + 1) (b ∷ body))
cut_step b body true h ih = refl
cut_step b body false h ih = rw (ih (omega arith), take_next (before body) b body, drop_next (before body) b body) refl

cut_at : (body : List ℕ) → before body < length body → cut_at_zero body ≡ Some (take (before body) body, drop (before body + 1) body)
cut_at [] h = absurd (omega arith)
cut_at (b ∷ body) h = cut_step b body (b == 0) h (cut_at body)

uncut_step : (b : ℕ) (body : List ℕ) (t : Bool) → suc (length body) ≤ cond (not t) (1 + before body) 0
    → (length body ≤ before body → cut_at_zero body ≡ None) → cond {A = Option (List ℕ × List ℕ)} t (Some ([], body))
    (option_map (λ cut. (b ∷ cut.0, cut.1)) (cut_at_zero body)) ≡ None
uncut_step b body true h ih = absurd (omega arith)
uncut_step b body false h ih = rw (ih (omega arith)) refl

uncut : (body : List ℕ) → length body ≤ before body → cut_at_zero body ≡ None
uncut [] h = refl
uncut (b ∷ body) h = uncut_step b body (b == 0) h (uncut body)

name_whole : (xs ys : List ℕ) → 0 < length xs → ys ≡ [] → body_name (Some (xs, ys)) ≡ Some xs
name_whole [] ys h e = absurd (omega arith)
name_whole (b ∷ xs) [] h e = refl
name_whole (b ∷ xs) (y ∷ ys) h e = cc

unnamed : (xs ys : List ℕ) → 0 < length ys → body_name (Some (xs, ys)) ≡ None
unnamed [] ys h = refl
unnamed (b ∷ xs) [] h = absurd (omega arith)
unnamed (b ∷ xs) (y ∷ ys) h = refl

-- no byte before this place is zero
abbrev Clear : List ℕ → ℕ → Type 0
Clear body e = (k : ℕ) → k < e → get_or body k 0 ≢ 0

is_not : (b : ℕ) → b ≢ 0 → (b == 0) ≡ false
is_not b h = grind (arith, nat_tests)

first_at : (body : List ℕ) (e : ℕ) → e < length body → Clear body e → get_or body e 0 ≡ 0 → before body ≡ e
first_at body e l clear z = position_or_len_is (λ byte. byte == 0) body e 0 (omega arith) (λ k h. is_not (get_or body k 0) (clear k h))
    (λ _. ap (λ v. v == 0) z)

first_none : (body : List ℕ) → Clear body (length body) → length body ≤ before body
first_none body clear =
    let e : before body ≡ length body = position_or_len_is (λ byte. byte == 0) body (length body) 0 (omega arith)
    (λ k h. is_not (get_or body k 0) (clear k h)) (λ h. absurd (omega arith)) in
    omega (arith, e)

first_by : (body : List ℕ) (k : ℕ) → get_or body k 0 ≡ 0 → before body ≤ k
first_by body k z = elim (cases_lt k (before body)) [
  | inl low ↦ (let f : true ≡ false = sym (ap (λ v. v == 0) z) ∙ fails_before_first (λ byte. byte == 0) body k 0 low in cc)
  | inr high ↦ high
]

-- a body of one byte, or of none, has no name
pub name_short : (body : List ℕ) → length body < 2 → None ≡ body_name (cut_at_zero body)
name_short [] h = refl
name_short (b ∷ []) h = alone (b == 0)
  where
    alone : (t : Bool) → None ≡ body_name (cond {A = Option (List ℕ × List ℕ)} t (Some ([], [])) None)
    alone true = refl
    alone false = refl
name_short (b ∷ c ∷ body) h = absurd (omega arith)

-- the last byte is zero, and no other
ended : (body : List ℕ) (e : ℕ) → Clear body e → get_or body e 0 ≡ 0 → 0 < e → e + 1 ≡ length body
    → Some (take e body) ≡ body_name (cut_at_zero body)
ended body e clear z some last =
    let at : before body ≡ e = first_at body e (omega arith) clear z in
    let cut : cut_at_zero body ≡ Some (take e body, drop (e + 1) body) =
    subst (λ (v : ℕ). cut_at_zero body ≡ Some (take v body, drop (v + 1) body)) at (cut_at body (omega (arith, at))) in
    let t : length (take e body) ≡ e = length-take-le e body (omega arith) in
    sym (ap body_name cut ∙ name_whole (take e body) (drop (e + 1) body) (omega arith) (drop_all (e + 1) body (omega arith)))

-- no byte is zero
unended : (body : List ℕ) (e : ℕ) → Clear body e → get_or body e 0 ≢ 0 → e + 1 ≡ length body → None ≡ body_name (cut_at_zero body)
unended body e clear other last = sym (ap body_name (uncut body (first_none body all)))
  where
    all : Clear body (length body)
    all k h = elim (cases_lt k e) [
      | inl low ↦ clear k low
      | inr high ↦ subst (λ (v : ℕ). get_or body v 0 ≢ 0) (omega arith) other
    ]

-- a byte before the last one is zero
broken : (body : List ℕ) (e k : ℕ) → get_or body k 0 ≡ 0 → k < e → e + 1 ≡ length body → None ≡ body_name (cut_at_zero body)
broken body e k z low last =
    let f = first_by body k z in
    sym (ap body_name (cut_at body (omega (arith, f))) ∙ unnamed (take (before body) body) (drop (before body + 1) body) (let l =
    length-drop (before body + 1) body in omega (arith, f)))

-- the search through a message, whose body follows the first h bytes
module _ (message body : List ℕ) (h e : ℕ) (rest : body ≡ drop h message) (last : e + 1 ≡ length body) where
  abbrev searched : List ℕ
  searched = take (h + e) message

  -- as many bytes are searched as the header has, and the body without its last byte
  pub long : length searched ≡ h + e
  long = length-take-le (h + e) message (let l = length-drop h message in let m = ap length rest in omega (arith, l, m))

  same : (k : ℕ) → k < e → get_or searched (h + k) 0 ≡ get_or body k 0
  same k l = get_or-take (h + e) message (h + k) 0 (omega arith) ∙ sym (get_or-drop h message k 0) ∙ ap (λ v. get_or v k 0) (sym rest)

  clear_none : IsLastByte (is_byte 0) searched None → Clear body e
  clear_none none k l z = none (h + k) (omega arith) (omega (arith, long)) (ap (λ v. v == 0) (same k l ∙ z))

  clear_some : (p : ℕ) → IsLastByte (is_byte 0) searched (Some p) → p < h → Clear body e
  clear_some p found low k l z = found.0.after (h + k) (omega arith) (omega (arith, long)) (ap (λ v. v == 0) (same k l ∙ z))

  -- if the last zero byte found is in the body, the body has no name
  pub name_holds_zero : (p : ℕ) → IsLastByte (is_byte 0) (take (h + e) message) (Some p) → h ≤ p → None ≡ body_name (cut_at_zero body)
  name_holds_zero p found high =
      let high_end = found.0.high in
      let below : p - h < e = omega (arith, long, high_end) in
      let there : h + (p - h) ≡ p = omega arith in
      broken body e (p - h) (sym (same (p - h) below) ∙ ap (λ v. get_or searched v 0) there ∙ eqb-true _ _ found.1) below last

  -- if no zero byte is found and the last byte is zero, the name is all before that byte
  pub name_ends_none : IsLastByte (is_byte 0) (take (h + e) message) None → get_or body e 0 ≡ 0 → 0 < e
      → Some (take e body) ≡ body_name (cut_at_zero body)
  name_ends_none none z some = ended body e (clear_none none) z some last

  -- the name is all before the last byte, which is zero, also if one is found in the header
  pub name_ends_some : (p : ℕ) → IsLastByte (is_byte 0) (take (h + e) message) (Some p) → p < h → get_or body e 0 ≡ 0 → 0 < e
      → Some (take e body) ≡ body_name (cut_at_zero body)
  name_ends_some p found low z some = ended body e (clear_some p found low) z some last

  -- if no zero byte is found and the last byte is none either, the body has no name
  pub name_open_none : IsLastByte (is_byte 0) (take (h + e) message) None → get_or body e 0 ≢ 0 → None ≡ body_name (cut_at_zero body)
  name_open_none none other = unended body e (clear_none none) other last

  -- the body has no name if its last byte is not zero, also if one is found in the header
  pub name_open_some : (p : ℕ) → IsLastByte (is_byte 0) (take (h + e) message) (Some p) → p < h → get_or body e 0 ≢ 0
      → None ≡ body_name (cut_at_zero body)
  name_open_some p found low other = unended body e (clear_some p found low) other last

-- which name a body has, by what the search finds and by the last byte
pub ruleset named = (name_short, name_holds_zero, name_ends_none, name_ends_some, name_open_none, name_open_some)
