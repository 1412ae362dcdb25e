-- The text of a name, whose first bytes are a run that is printed unescaped. `run_none` to `run_all` say how a run grows. `name_put` is the
-- main lemma: if a run and the text after it were put, the name was; and each had room (`run_fits`, `byte_fits`), since the full name has.
use Rattle.std.proofs.Common.{◌≡◌, ◌∙◌, sym, ap, ℕ, ◌+◌, ◌<◌, ◌≤◌, List, [], ◌∷◌, ◌++◌, length, take, drop, get_or, true, arith, refl, append-nil, append_assoc, length-append, take_all, take-append-drop}
use Rattle.std.proofs.lemmas.List.{take_more}
use Rattle.std.proofs.lemmas.List.Concat.{flat_map-append}
use Rattle.node_list.specs.declared.path_text.TheConstants.{LONGEST}
use Rattle.node_list.specs.Lines.{is_unescaped, escaped, name_text}
use Rattle.node_list.proofs.Gaining.{name_more}

-- the bytes so far are printed as themselves
abbrev pub IsRun : List ℕ → ℕ → Type 0
IsRun name i = name_text (take i name) ≡ take i name

-- no bytes are a run
pub run_none : (name : List ℕ) → IsRun name 0
unfolding name_text
run_none name = refl

as_itself : (byte : ℕ) → is_unescaped byte ≡ true → escaped byte ≡ byte ∷ []
as_itself byte e = rw e refl

-- a run and one more byte that needs no escape are a run
pub run_more : (name : List ℕ) (i : ℕ) → i < length name → is_unescaped (get_or name i 0) ≡ true → IsRun name i → IsRun name (i + 1)
run_more name i l e run =
    sym (name_more name i l) ∙ ap (λ t. t ++ escaped (get_or name i 0)) run
    ∙ ap (λ t. take i name ++ t) (as_itself (get_or name i 0) e) ∙ sym (take_more name i 0 l)

-- a run up to the end of the name is the full name
pub run_all : (name : List ℕ) (i n : ℕ) → length name ≤ i → n ≡ length name → IsRun name i → IsRun name n
run_all name i n l e run =
    ap (λ xs. name_text xs) (all_of n (omega (arith, e))) ∙ sym (ap name_text (all_of i l)) ∙ run ∙ all_of i l
    ∙ sym (all_of n (omega (arith, e)))
  where
    all_of : (k : ℕ) → length name ≤ k → take k name ≡ name
    all_of k l = take_all k name l

text_joined : (xs ys : List ℕ) → name_text xs ++ name_text ys ≡ name_text (xs ++ ys)
unfolding name_text
text_joined xs ys = sym (flat_map-append escaped xs ys)

-- a name is cut after i bytes, a run
pub record IsCut (name run others : List ℕ) (i : ℕ) : Type 0 where
  pub plain : IsRun name i
  pub front : run ≡ take i name
  pub back : others ≡ drop i name

-- what follows a run is the text of the other bytes
pub run_then : {name run others : List ℕ} {i : ℕ} → IsCut name run others i → run ++ name_text others ≡ name_text name
run_then {name} {run} {others} {i} c =
    ap (λ t. t ++ name_text others) (c.front ∙ sym c.plain) ∙ ap (λ t. name_text (take i name) ++ name_text t) c.back
    ∙ text_joined (take i name) (drop i name) ∙ ap name_text (take-append-drop i name)

-- as long as a run and the text of the other bytes is the text of the name
cut_length : {name run others : List ℕ} {i : ℕ} → IsCut name run others i → length run + length (name_text others)
    ≡ length (name_text name)
cut_length {run = run} {others = others} c = sym (length-append run (name_text others)) ∙ ap length (run_then c)

-- the text of some bytes and that of the next are no longer than the text of the name
next_fits : (name : List ℕ) (i : ℕ) → i < length name
    → length (name_text (take i name)) + length (escaped (get_or name i 0)) ≤ length (name_text name)
next_fits name i l =
    let e = sym (length-append (name_text (take i name)) (escaped (get_or name i 0))) ∙ ap length (name_more name i l) in
    let f = sym (length-append (name_text (take (i + 1) name)) (name_text (drop (i + 1) name)))
    ∙ ap length (text_joined (take (i + 1) name) (drop (i + 1) name)) ∙ ap (λ t. length (name_text t)) (take-append-drop (i + 1) name) in
    omega (arith, e, f)

-- a text followed by a slash, the run of a name and the text of k bytes after it
pub record GoesOn (text slash front here run others : List ℕ) (k : ℕ) : Type 0 where
  pub slash_is : slash ≡ text ++ 47 ∷ []
  pub front_is : front ≡ slash ++ run
  pub here_is : here ≡ front ++ name_text (take k others)

-- the run is followed by the text of no bytes
pub put_none : (front others : List ℕ) → front ≡ front ++ name_text (take 0 others)
unfolding name_text
put_none front others = sym (append-nil front)

-- the run is followed by the text of one more byte
pub put_more : (front others : List ℕ) {here next : List ℕ} (k : ℕ) → here ≡ front ++ name_text (take k others) → k < length others
    → next ≡ here ++ escaped (get_or others k 0) → next ≡ front ++ name_text (take (k + 1) others)
put_more front others k e l f =
    f ∙ ap (λ q. q ++ escaped (get_or others k 0)) e ∙ append_assoc front (name_text (take k others)) (escaped (get_or others k 0))
    ∙ ap (λ q. front ++ q) (name_more others k l)

module _ (name text : List ℕ) (room : length text + length (name_text name) < LONGEST) where
  -- the run has room
  pub run_fits : {run others slash : List ℕ} {i : ℕ} → IsCut name run others i → slash ≡ text ++ 47 ∷ [] → length slash + length run
      ≤ LONGEST
  run_fits c e =
      let l = ap length e ∙ length-append text (47 ∷ []) in
      let k = cut_length c in
      omega (arith, l, k, room)

  -- the next byte has room
  pub byte_fits : {run others slash front here : List ℕ} {i k : ℕ} → IsCut name run others i → GoesOn text slash front here run others k
      → k < length others → length here + length (escaped (get_or others k 0)) ≤ LONGEST
  byte_fits {run} {others} {slash} {front} {here} {i} {k} c g l =
      let a = ap length g.slash_is ∙ length-append text (47 ∷ []) in
      let b = ap length g.front_is ∙ length-append slash run in
      let d = ap length g.here_is ∙ length-append front (name_text (take k others)) in
      let e = cut_length c in
      let f = next_fits others k l in
      omega (arith, a, b, d, e, f, room)

-- if all bytes after the run are put, the name is
pub name_put : {name text run others slash front here : List ℕ} {i k : ℕ} → IsCut name run others i
    → GoesOn text slash front here run others k → length others ≤ k → here ≡ text ++ 47 ∷ name_text name
name_put {name} {text} {run} {others} {slash} {front} {here} {i} {k} c g l =
    g.here_is
    ∙ ap (λ q. q ++ name_text (take k others)) (g.front_is ∙ ap (λ q. q ++ run) g.slash_is)
    ∙ ap (λ t. ((text ++ 47 ∷ []) ++ run) ++ name_text t) (take_all k others l)
    ∙ append_assoc (text ++ 47 ∷ []) run (name_text others) ∙ append_assoc text (47 ∷ []) (run ++ name_text others)
    ∙ ap (λ t. text ++ 47 ∷ t) (run_then c)
