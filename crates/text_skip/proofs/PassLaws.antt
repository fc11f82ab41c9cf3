-- What a proof uses of a value that is skipped. At a quote the token is the string that is read there, so skipping meets the same strings
-- as reading does.
-- Assumes nothing.
use Rattle.std.specs.Prelude.{Ok, Err, Some, None, Result, Option}
use mathlib.Core.Path.{◌≡◌, refl, sym, ap, ap₂, ◌∙◌}
use mathlib.Core.Bool.{Bool, true, false}
use mathlib.Core.List.{List}
use Prim.Native.Nat.{ℕ, ◌+◌, ◌-◌, ◌<◌, ◌≤◌}
use native.Mathlib.Omega.{arith}
use lib.ListN.{length, get_or}
use borrow.Author.Tests.{lt-leb}
use Rattle.text.specs.Scan.{gap_end, run_end}
use Rattle.text.specs.declared.Cursor.{Cursor}
use Rattle.text.specs.declared.Refusal.{Refusal}
use Rattle.text.specs.declared.Run.TheVariants.{Name}
use Rattle.text.proofs.Here.{here, never, ok_pair_parts}
use Rattle.text_string.specs.Str.{is_quote, Str, whole, cut, closed_by, str_at, bytes_of}
use Rattle.text_value.specs.Value.{starts_name, More, added, ends, broken, added_by, more_at, more_bytes, value_at, place_of, closed_at}
use Rattle.text_value.proofs.JoinLaws.{more_size, joined_on, joined_stop, joined_broken, value_string, value_cut, value_name, value_none, place_size, closed_on}
use Rattle.text_value.proofs.JoinLaws.{closed_stop, closed_broken, closed_string_lem, closed_cut, closed_name}
use Rattle.text_value.proofs.ValueLaws.{more_plain, more_bare, more_string}
use Rattle.text_past.specs.Past.{broke_off}
use Rattle.text_skip.specs.Skip.{past_whole, past_text, how_closed, closed_token, token_here, token_at, tail_of, added_at, skipped_at}
use Rattle.text_past.specs.declared.How.{How}
use Rattle.text_past.specs.declared.How.TheVariants.{Whole, Text}
use Rattle.std.specs.declared.ops.ControlFlow.{ControlFlow}
use Rattle.std.specs.declared.ops.ControlFlow.TheVariants.{Continue, Break}

-- ---- the token at a quote

str_token : List ℕ → Str → Result (Cursor × How) Refusal
str_token s (whole bs e) = past_whole e
str_token s cut = past_text (length s)

closed_str : (s bs : List ℕ) (k : Option ℕ) → closed_token s k ≡ str_token s (closed_by bs k)
unfolding closed_token str_token closed_by
closed_str s bs (Some e) = refl
closed_str s bs None = refl

quote_here : (s : List ℕ) (at : ℕ) → is_quote (get_or s at 256) ≡ true → at < length s
unfolding is_quote
quote_here s at q = here s at (λ e. never (ap is_quote e) q)

token_str : (s : List ℕ) (at : ℕ) → is_quote (get_or s at 256) ≡ true → token_at s at ≡ str_token s (str_at s at)
unfolding token_at token_here str_at
token_str s at q = rw (lt-leb (length s) at (quote_here s at q)) (rw q (closed_str s _ _))

-- h: how the token ended
past_str : (s : List ℕ) (t : Str) (c : Cursor) (h : How) → str_token s t ≡ Ok (c, h) → broke_off h ≡ false → t ≡ whole (bytes_of t) c.at
unfolding str_token bytes_of broke_off
past_str s (whole bs e) c h k b = ap (λ (x : Cursor). whole bs x.at) (ok_pair_parts (record { at = e }) c Whole h k).0
past_str s cut c h k b = absurd (never b (sym (ap broke_off (ok_pair_parts (record { at = length s }) c Text h k).1)))

cut_str : (s : List ℕ) (t : Str) (c : Cursor) (h : How) → str_token s t ≡ Ok (c, h) → broke_off h ≡ true → t ≡ cut
unfolding str_token broke_off
cut_str s (whole bs e) c h k b = absurd (never (sym (ap broke_off (ok_pair_parts (record { at = e }) c Whole h k).1)) b)
cut_str s cut c h k b = refl

refused_str : (s : List ℕ) (t : Str) (r : Refusal) → str_token s t ≡ Err r → ⊥
unfolding str_token
refused_str s (whole bs e) r h = let z : ◌≡◌ {A = ℕ} 0 1 = cc in omega arith
refused_str s cut r h = let z : ◌≡◌ {A = ℕ} 0 1 = cc in omega arith

-- b stands here and is a quote, k: the token here
module _ (s : List ℕ) (at : ℕ) {b : ℕ} {t : Bool} (be : b ≡ get_or s at 256) (te : t ≡ is_quote b) (y : t ≡ true) {k : Result (Cursor × How) Refusal} (ke : k ≡ token_at s at) where
  token_is : str_token s (str_at s at) ≡ k
  token_is = let q : is_quote (get_or s at 256) ≡ true = cc in sym (ke ∙ token_str s at q)

  str_refused : (r : Refusal) → k ≡ Err r → ⊥
  str_refused r m = refused_str s (str_at s at) r (token_is ∙ m)

  -- o: whether the text's end ended it
  module _ (c : Cursor) (h : How) (m : k ≡ Ok (c, h)) {o : Bool} (oe : o ≡ broke_off h) where
    str_past : o ≡ false → str_at s at ≡ whole (bytes_of (str_at s at)) c.at
    str_past n = past_str s (str_at s at) c h (token_is ∙ m) (sym oe ∙ n)

    str_cut : o ≡ true → str_at s at ≡ cut
    str_cut n = cut_str s (str_at s at) c h (token_is ∙ m) (sym oe ∙ n)

    token_cut : o ≡ true → past_text (length s) ≡ k
    unfolding str_token
    token_cut n = sym (ap (str_token s) (str_cut n)) ∙ token_is

-- ---- what follows a string

-- Each law takes what the calls on the way answered, in their order: g after the gap, p what stands there, h after the second gap, q what
-- stands there, t whether that is a quote, k the token there, o whether the text's end ended it.
module _ (s : List ℕ) (at : ℕ) {g p : ℕ} (ge : g ≡ gap_end s at) (pe : p ≡ get_or s g 256) where
  pub tail_plain : (p ≡ 43 → ⊥) → tail_of (more_at s at) ≡ Ok (Break (record { at = g }, Whole))
  unfolding tail_of
  tail_plain n = ap tail_of (more_plain s at ge pe n)

  module _ (plus : p ≡ 43) {h q : ℕ} {t : Bool} (he : h ≡ gap_end s (g + 1)) (qe : q ≡ get_or s h 256) (te : t ≡ is_quote q) where
    pub tail_bare : t ≡ false → tail_of (more_at s at) ≡ Ok (Break (record { at = h }, Whole))
    unfolding tail_of
    tail_bare n = ap tail_of (more_bare s at ge pe plus he qe te n)

    module _ (y : t ≡ true) {k : Result (Cursor × How) Refusal} (ke : k ≡ token_at s h) where
      pub tail_refused : (r : Refusal) → k ≡ Err r → tail_of (more_at s at) ≡ Err r
      tail_refused r m = absurd (str_refused s h qe te y ke r m)

      module _ (c : Cursor) (w : How) (m : k ≡ Ok (c, w)) {o : Bool} (oe : o ≡ broke_off w) where
        pub tail_past : o ≡ false → tail_of (more_at s at) ≡ Ok (Continue c)
        unfolding tail_of added_by
        tail_past n = ap tail_of (more_string s at ge pe plus he qe te y ∙ ap (added_by s) (str_past s h qe te y ke c w m oe n))

        pub tail_cut : o ≡ true → tail_of (more_at s at) ≡ Ok (Break (c, w))
        unfolding tail_of added_by
        tail_cut n =
            let e : past_text (length s) ≡ Ok (c, w) = token_cut s h qe te y ke c w m oe n ∙ m in
            let k : ◌≡◌ {A = Cursor × How} (record { at = length s }, Text) (c, w) = cc in
            ap tail_of (more_string s at ge pe plus he qe te y ∙ ap (added_by s) (str_cut s h qe te y ke c w m oe n)) ∙ ap (λ x. Ok (Break x)) k

-- ---- all that is added

past_is : {i j : ℕ} {a b : Bool} → i ≡ j → a ≡ b
    → ◌≡◌ {A = Result (Cursor × How) Refusal} (Ok (record { at = i }, how_closed a)) (Ok (record { at = j }, how_closed b))
past_is e f = ap₂ (λ i b. Ok (record { at = i }, how_closed b)) e f

more_tail : (m : More) (c : Cursor) → tail_of m ≡ Ok (Continue c) → m ≡ added (more_bytes m) c.at
unfolding tail_of more_bytes
more_tail (added bs e) c h = cc
more_tail (ends e) c h = cc
more_tail (broken e) c h = cc

last_tail : (s : List ℕ) (at : ℕ) (m : More) (k : Cursor × How) → more_at s at ≡ m → tail_of m ≡ Ok (Break k) → added_at s at ≡ Ok k
unfolding tail_of added_at
last_tail s at (added bs e) k q h = cc
last_tail s at (ends e) k q h = let n : past_whole e ≡ Ok k = cc in past_is (joined_stop s at e q) (closed_stop s at e q) ∙ n
last_tail s at (broken e) k q h = let n : past_text e ≡ Ok k = cc in past_is (joined_broken s at e q) (closed_broken s at e q) ∙ n

no_tail : (m : More) (r : Refusal) → tail_of m ≡ Err r → ⊥
unfolding tail_of
no_tail (added bs e) r h = let z : ◌≡◌ {A = ℕ} 0 1 = cc in omega arith
no_tail (ends e) r h = let z : ◌≡◌ {A = ℕ} 0 1 = cc in omega arith
no_tail (broken e) r h = let z : ◌≡◌ {A = ℕ} 0 1 = cc in omega arith

-- t: what follows the string
module _ (s : List ℕ) (at : ℕ) {t : Result (ControlFlow (Cursor × How) Cursor) Refusal} (te : t ≡ tail_of (more_at s at)) where
  pub added_more : (c : Cursor) → t ≡ Ok (Continue c) → added_at s at ≡ added_at s c.at
  unfolding added_at
  added_more c h =
      let m = more_tail (more_at s at) c (sym te ∙ h) in
      let bs = more_bytes (more_at s at) in
      past_is (joined_on s at bs c.at m) (closed_on s at c.at bs m)

  pub added_on : (c : Cursor) → t ≡ Ok (Continue c) → length s - c.at < length s - at
  added_on c h = omega (arith, more_size s at (more_bytes (more_at s at)) c.at (more_tail (more_at s at) c (sym te ∙ h)))

  pub added_last : (k : Cursor × How) → t ≡ Ok (Break k) → added_at s at ≡ Ok k
  added_last k h = last_tail s at (more_at s at) k refl (sym te ∙ h)

  pub added_refused : (r : Refusal) → t ≡ Err r → ⊥
  added_refused r h = no_tail (more_at s at) r (sym te ∙ h)

-- ---- a value

-- g after the gap, b what stands there, t whether that is a quote, k the token there, o whether the text's end ended it, n whether a name
-- begins so
module _ (s : List ℕ) (at : ℕ) {g b : ℕ} {t : Bool} (ge : g ≡ gap_end s at) (be : b ≡ get_or s g 256) (te : t ≡ is_quote b) where
  module _ (y : t ≡ true) {k : Result (Cursor × How) Refusal} (ke : k ≡ token_at s g) where
    pub passed_refused : (r : Refusal) → k ≡ Err r → skipped_at s at ≡ k
    passed_refused r m = absurd (str_refused s g be te y ke r m)

    module _ (c : Cursor) (h : How) (m : k ≡ Ok (c, h)) {o : Bool} (oe : o ≡ broke_off h) where
      pub passed_string : o ≡ false → {e : Result (Cursor × How) Refusal} → e ≡ added_at s c.at → skipped_at s at ≡ e
      unfolding skipped_at added_at place_of
      passed_string n q =
          let w = str_past s g be te y ke c h m oe n in
          let bs = bytes_of (str_at s g) in
          past_is (ap place_of (value_string s at ge be te y bs c.at w)) (closed_string_lem s at ge be te y bs c.at w) ∙ sym q

      pub passed_cut : o ≡ true → skipped_at s at ≡ Ok (c, h)
      unfolding skipped_at place_of
      passed_cut n =
          let w = str_cut s g be te y ke c h m oe n in
          past_is (ap place_of (value_cut s at ge be te y w)) (closed_cut s at ge be te y w) ∙ token_cut s g be te y ke c h m oe n ∙ m

  module _ (f : t ≡ false) {n : Bool} (ne : n ≡ starts_name b) where
    pub passed_name : n ≡ true → {e : ℕ} → e ≡ run_end Name s g → skipped_at s at ≡ past_whole e
    unfolding skipped_at place_of
    passed_name m ee = past_is (ap place_of (value_name s at ge be te f ne m ee)) (closed_name s at ge be te f)

    pub passed_none : n ≡ false → skipped_at s at ≡ past_whole g
    unfolding skipped_at place_of
    passed_none m = past_is (ap place_of (value_none s at ge be te f ne m)) (closed_name s at ge be te f)

-- a value that is skipped ends within the text, where the scan stands within it; none is refused
pub skipped_far : (s : List ℕ) (at : ℕ) → at ≤ length s → (c : Cursor) (h : How) → skipped_at s at ≡ Ok (c, h) → (at ≤ c.at) × (c.at ≤ length s)
unfolding skipped_at
skipped_far s at l c h e =
    let k = ap (λ (x : Cursor). x.at) (ok_pair_parts (record { at = place_of (value_at s at) }) c (how_closed (closed_at s at)) h e).0 in
    omega (arith, place_size s at l, k)

pub skipped_refused : (s : List ℕ) (at : ℕ) (r : Refusal) → skipped_at s at ≡ Err r → ⊥
unfolding skipped_at
skipped_refused s at r e = let z : ◌≡◌ {A = ℕ} 0 1 = cc in omega arith
