-- Texts that are put one after another: no call puts nothing (`puts_none`), and two calls, of which the second may fail, put what each puts
-- (`puts_more`). A text, a name or a path grows by its next part.
use Rattle.std.proofs.Common.{◌≡◌, ◌∙◌, sym, ap, subst, ℕ, zero, suc, ◌+◌, ◌<◌, ◌≤◌, ◌⊎◌, inl, inr, List, [], ◌∷◌, ◌++◌, length, take, get_or, refl, arith, add-one, append-nil, append_assoc}
use Rattle.std.specs.Prelude.{flat_map, Result, Ok, Err, OnOk, IsErr}
use Rattle.std.specs.Io.KnownBytes.{Appends}
use Rattle.std.proofs.KnownBytes.{Appends-nil, Appends-trans}
use Rattle.std.proofs.lemmas.List.Concat.{flat_map-append}
use Rattle.stack_model.specs.Stack.{Path}
use Rattle.node_list.specs.Lines.{escaped, name_text, names_text}
use Rattle.devices.specs.declared.failed.Failed.{Failed}
use Rattle.devices.specs.States.{SinkState}
use Rattle.devices.specs.Pushing.{GainsFront, HandsOn, Settles}
use Rattle.node_list.specs.Walks.{Passage, passage, Gains, Loses, Puts}

-- if nothing was put, nothing is gained
pub puts_none : {X E : Type 0} (x : X) (w : Passage) → Puts {E = E} (Ok x) w w []
puts_none x w = record {
  gained = record { put = []; gained = Appends-nil w.sink.held; left = append-nil w.waiting };
  lost = tt;
  counted = (refl, omega arith);
}

-- two steps as one: bytes are added to what is on its way twice, and each time its first bytes are handed on
on_and_on : (u xs p v ys q r : List ℕ) → u ++ xs ≡ p ++ v → v ++ ys ≡ q ++ r → u ++ (xs ++ ys) ≡ (p ++ q) ++ r
on_and_on u xs p v ys q r e f =
    sym (append_assoc u xs ys) ∙ ap (λ t. t ++ ys) e ∙ append_assoc p v ys ∙ ap (λ t. p ++ t) f ∙ sym (append_assoc p q r)

-- what is gained twice is gained together
pub gains_more : {u v w : Passage} {xs ys : List ℕ} → Gains u v xs → Gains v w ys → Gains u w (xs ++ ys)
gains_more {u} {v} {w} {xs} {ys} x y = record {
  put = x.put ++ y.put;
  gained = Appends-trans u.sink.held v.sink.held w.sink.held x.put y.put x.gained y.gained;
  left = on_and_on u.waiting xs x.put v.waiting ys y.put w.waiting x.left y.left;
}

-- what is gained, and then lost in part, is lost in part
pub loses_more : {u v w : Passage} {xs ys : List ℕ} → Gains u v xs → Loses v w ys → Loses u w (xs ++ ys)
loses_more {u} {v} {w} {xs} {ys} x l = let y = l.gained in record {
  gained = record {
    put = x.put ++ y.put;
    more = y.more;
    front = on_and_on u.waiting xs x.put v.waiting ys y.put y.more x.left y.front;
    gained = Appends-trans u.sink.held v.sink.held w.sink.held x.put y.put x.gained y.gained;
  };
}

-- of a longer text the same part is lost
pub loses_longer : {u w : Passage} {xs : List ℕ} (ys : List ℕ) → Loses u w xs → Loses u w (xs ++ ys)
loses_longer {u} {w} {xs} ys l = let x = l.gained in record {
  gained = record {
    put = x.put;
    more = x.more ++ ys;
    front = sym (append_assoc u.waiting xs ys) ∙ ap (λ t. t ++ ys) x.front ∙ append_assoc x.put x.more ys;
    gained = x.gained;
  };
}

-- what is lost may be given by any equal text
pub loses_same : {u w : Passage} {xs ys : List ℕ} → xs ≡ ys → Loses u w xs → Loses u w ys
loses_same e x = rw (sym e) x

-- a call that failed puts no more of a longer text
pub failed_longer : {X E Y F : Type 0} {e : F} {u w : Passage} {xs : List ℕ} (r : Result X E) (ys : List ℕ)
    → IsErr r → Puts {X = Y} (Err e) u w xs → Puts r u w (xs ++ ys)
failed_longer (Ok x) ys i p = absurd (cc)
failed_longer (Err d) ys i p = record { gained = tt; lost = loses_longer ys p.lost; counted = p.counted }

-- everything that was put and is no longer on its way has reached the sink
pub all_put : {u w : Passage} {xs : List ℕ} → Gains u w xs → u.waiting ≡ [] → w.waiting ≡ [] → Appends u.sink.held w.sink.held xs
all_put {u} {w} {xs} x before after =
    let is : xs ≡ x.put = sym (ap (λ l. l ++ xs) before) ∙ x.left ∙ ap (λ l. x.put ++ l) after ∙ append-nil x.put in
    subst (Appends u.sink.held w.sink.held) (sym is) x.gained

-- what is lost if nothing was on its way is the first of the text
pub front_lost : {u w : Passage} {xs : List ℕ} → Loses u w xs → u.waiting ≡ [] → GainsFront xs u.sink.held w.sink.held
front_lost {u} {w} {xs} l before = let x = l.gained in
    record { put = x.put; more = x.more; front = sym (ap (λ t. t ++ xs) before) ∙ x.front; gained = x.gained }

-- what is put by two calls is what the one put and then what the other did
pub puts_more : {X Y E F : Type 0} {x : X} {q : Result Y F} {u v w : Passage} {xs ys : List ℕ} → Puts {E = E} (Ok x) u v xs
    → Puts q v w ys → Puts q u w (xs ++ ys)
puts_more {q = Ok y} f g = record {
  gained = gains_more f.gained g.gained;
  lost = tt;
  counted = (g.counted.0 ∙ f.counted.0, (let some = f.counted.1 in let more = g.counted.1 in omega arith));
}
puts_more {q = Err e} f g = record {
  gained = tt;
  lost = loses_more f.gained g.lost;
  counted = g.counted ∙ ap (λ n. n + 1) f.counted.0;
}

-- what is gained may be given by any equal text
pub gains_same : {u w : Passage} {xs ys : List ℕ} → xs ≡ ys → Gains u w xs → Gains u w ys
gains_same e x = rw (sym e) x

-- what is put may be given by any equal text
pub puts_same : {Y F : Type 0} {q : Result Y F} {u w : Passage} {xs ys : List ℕ} → xs ≡ ys → Puts q u w xs → Puts q u w ys
puts_same e x = rw (sym e) x

-- bytes that were handed on count as they do
settled : (q : Result (Unit {0}) Failed) (bytes : List ℕ) (old new : SinkState) → HandsOn bytes old new q → Settles q old new
settled (Ok u) bytes old new h = (h.2.1.failures, flushed h.2.1.flushed)
  where
    flushed : ((h.0 ≡ []) × (new.counts.unflushed ≡ old.counts.unflushed)) ⊎ (new.counts.unflushed ≡ 0)
        → new.counts.unflushed ≤ old.counts.unflushed
    flushed (inl x) = omega (arith, x.1)
    flushed (inr z) = omega (arith, z)
settled (Err e) bytes old new h = h.2

-- all that was on its way is handed on, and nothing is then
pub drained : {q : Result (Unit {0}) Failed} (waiting left : List ℕ) (old new : SinkState) → HandsOn waiting old new q
    → OnOk q (left ≡ []) → Puts q (passage old waiting) (passage new left) []
drained {q = Ok u} waiting left old new h none = record {
  gained = record { put = h.0; gained = h.1.held; left = append-nil waiting ∙ sym h.2.0 ∙ sym (ap (λ l. h.0 ++ l) none ∙ append-nil h.0) };
  lost = tt;
  counted = settled (Ok u) waiting old new h;
}
drained {q = Err e} waiting left old new h none = record {
  gained = tt;
  lost = record { gained = record { put = h.0; more = h.1.more; front = append-nil waiting ∙ h.1.front; gained = h.1.held } };
  counted = settled (Err e) waiting old new h;
}

-- if nothing was on its way, bytes are handed on, and nothing is on its way then
pub handed_on : {q : Result (Unit {0}) Failed} (bytes waiting : List ℕ) (old new : SinkState) → HandsOn bytes old new q
    → waiting ≡ [] → Puts q (passage old waiting) (passage new waiting) bytes
handed_on {q = Ok u} bytes waiting old new h none = record {
  gained = record {
    put = h.0;
    gained = h.1.held;
    left = ap (λ w. w ++ bytes) none ∙ sym h.2.0 ∙ sym (ap (λ w. h.0 ++ w) none ∙ append-nil h.0);
  };
  lost = tt;
  counted = settled (Ok u) bytes old new h;
}
handed_on {q = Err e} bytes waiting old new h none = record {
  gained = tt;
  lost = record {
    gained = record { put = h.0; more = h.1.more; front = ap (λ w. w ++ bytes) none ∙ h.1.front; gained = h.1.held };
  };
  counted = settled (Err e) bytes old new h;
}

-- bytes are added to what is on its way, and none is handed on
pub put_by : {X E : Type 0} (x : X) (sink : SinkState) (waiting bytes more : List ℕ) → more ≡ waiting ++ bytes
    → Puts {E = E} (Ok x) (passage sink waiting) (passage sink more) bytes
put_by x sink waiting bytes more e = record {
  gained = record { put = []; gained = Appends-nil sink.held; left = sym e };
  lost = tt;
  counted = (refl, omega arith);
}

-- the texts of one element more are those before it, and its own
pub one_more : {X : Type 0} (f : X → List ℕ) (xs : List X) (i : ℕ) (d : X) → i < length xs → flat_map f (take (i + 1) xs)
    ≡ flat_map f (take i xs) ++ f (get_or xs i d)
one_more f [] i d l = absurd (omega arith)
one_more f (x ∷ xs) zero d l = append-nil (f x)
one_more f (x ∷ xs) (suc i) d l = rw add-one (ap (λ r. f x ++ r) (sym (ap (λ k. flat_map f (take k xs)) (add-one i))
    ∙ one_more f xs i d (omega arith)) ∙ sym (append_assoc (f x) (flat_map f (take i xs)) (f (get_or xs i d))))

-- the text of a name with one byte more is that before it, and the byte escaped
pub name_more : (name : List ℕ) (i : ℕ) → i < length name → name_text (take i name) ++ escaped (get_or name i 0)
    ≡ name_text (take (i + 1) name)
unfolding name_text
name_more name i l = sym (one_more escaped name i 0 l)

-- the text of a path with a name more
pub way_more : (path : Path) (n : List ℕ) → names_text path ++ 47 ∷ name_text n ≡ names_text (path ++ n ∷ [])
way_more path n = ap (λ r. names_text path ++ r) (sym (append-nil (47 ∷ name_text n)))
    ∙ sym (flat_map-append (λ name. 47 ∷ name_text name) path (n ∷ []))
