-- Texts that were written are read back; and a bundle that was read is what would be written of its texts.
-- Assumes nothing.
use mathlib.Core.Path.{◌≡◌, refl, sym, ap, ◌∙◌}
use mathlib.Core.List.{List, [], ◌∷◌, ◌++◌, map-append, append_assoc, append-nil}
use mathlib.Core.Bool.{false, ◌||◌}
use Prim.Native.Nat.{ℕ, zero, suc, ◌+◌, ◌-◌, ◌≤◌}
use native.Mathlib.Omega.{arith}
use lib.ListN.{length, length-map, take, drop, length-append, length-drop}
use lib.Seq.{take-append_seam, length-take-le, take_all}
use borrow.Author.Tests.{le-ltb}
use Rattle.text.specs.Keyword.{same}
use Rattle.text.proofs.KeywordLaws.{same_yes, same_no}
use Rattle.text.proofs.Here.{never, neither, or_none}
use Rattle.library_form.specs.Form.{Ans, good, bad, bind, PlacedName, many}
use Rattle.library_form.specs.Writer.{write_number, write_name, AllBytes}
use Rattle.library_form.proofs.Bounds.{number_end}
use Rattle.library_form.proofs.Standing.{Wrote, wrote_none, wrote_join, number_wrote, name_wrote, Stands, stands_left, stands_right, stands_within}
use Rattle.library_form.proofs.Standing.{number_stands, name_stands}
use Rattle.library_form.proofs.WriterLaws.{name_bytes, number_most}
use Rattle.library_index.specs.Names.{among, memb, new_name}
use Rattle.library_index.proofs.First.{among_append}
use Rattle.library_bundle.specs.Bundle.{most_texts, most_bytes, Text, text_of, body_at, filed_at, words, new_text, texts_at, bundle_at}
use Rattle.library_bundle.specs.BundleWriter.{Named, write_text, write_texts, write_bundle, named, all_named, TextBytes, AllTexts, Others, Differ}
use Rattle.library_bundle.specs.BundleWriter.{BundleTexts}
use Rattle.library_bundle.proofs.Entries.{parted}
use Rattle.library_bundle.proofs.Opening.{words_snoc}
use Rattle.library_bundle.proofs.Parts.{bundle_parted}

-- ---- names that are new

abbrev Fresh : List PlacedName → List Named → Type 0
Fresh ws [] = Unit
Fresh ws (t ∷ ts) = (memb t.name ws ≡ false) × Fresh ws ts

fresh_nil : (ts : List Named) → Fresh [] ts
unfolding among
fresh_nil [] = tt
fresh_nil (t ∷ ts) = (refl, fresh_nil ts)

memb_snoc : (t : List ℕ) (ws : List PlacedName) (w : PlacedName) → memb t (ws ++ (w ∷ [])) ≡ (memb t ws || same w.text t)
unfolding among
memb_snoc t ws w = among_append (λ (w : PlacedName). w.text) t ws (w ∷ []) ∙ ap (λ b. memb t ws || b) (or_none (same w.text t))

fresh_more : (ws : List PlacedName) (w : PlacedName) (ts : List Named) → Fresh ws ts → Others w.text ts → Fresh (ws ++ (w ∷ [])) ts
fresh_more ws w [] f o = tt
fresh_more ws w (t ∷ ts) f o =
    (memb_snoc t.name ws w ∙ rw f.0 (same_no w.text t.name o.0), fresh_more ws w ts f.1 o.1)

fresh_less : (ws : List PlacedName) (w : PlacedName) (ts : List Named) → Fresh (ws ++ (w ∷ [])) ts → Fresh ws ts × Others w.text ts
fresh_less ws w [] f = (tt, tt)
fresh_less ws w (t ∷ ts) f =
    let q = neither (memb t.name ws) (same w.text t.name) (sym (memb_snoc t.name ws w) ∙ f.0) in
    let r = fresh_less ws w ts f.1 in
    ((q.0, r.0), (λ p. never q.1 (same_yes w.text t.name p), r.1))

-- ---- read back: what stands at a place

module _ (s : List ℕ) where
  record Back (ws : List PlacedName) (at : ℕ) (t : Named) : Type 0 where
    entry : Text
    said : named s entry ≡ t
    read : filed_at s ws at ≡ good entry (at + length (write_text t))

  text_back : (ws : List PlacedName) (at : ℕ) (t : Named) (l : List ℕ) → Stands s at (write_text t) l → TextBytes t → memb t.name ws ≡ false → Back ws at t
  unfolding write_text filed_at new_name body_at
  text_back ws at t l g h new =
      let bs = t.name in
      let b = t.bytes in
      let w = write_name bs in
      let k = write_number (length b) in
      let g₁ = stands_right s at w (k ++ b) l g in
      let from = at + length w + length k in
      let g₂ = stands_right s (at + length w) k b l g₁ in
      let n = name_stands s at bs (k ++ b ++ l) h.name (stands_left s at w (k ++ b) l g) in
      let m = number_stands s (at + length w) (length b) (b ++ l) h.few (stands_left s (at + length w) k b l g₁) in
      let r : length b ≤ length s - from = omega (arith, stands_within s from b l g₂) in
      let c : take (length b) (drop from s) ≡ b = ap (take (length b)) g₂.bytes ∙ take-append_seam b l in
      let e : from + length b ≡ at + length (w ++ (k ++ b)) = omega (arith, length-append w (k ++ b), length-append k b) in
      record {
        entry = text_of (record { place = at + length (write_number (length bs)); size = length bs; text = bs }) from (length b);
        said = ap (λ (x : List ℕ). record { name = bs; bytes = x }) c;
        read = rw (n, new, m, le-ltb (length s - from) (length b) r, e);
      }

  record AllBack (at : ℕ) (seen : List Text) (ts : List Named) : Type 0 where
    texts : List Text
    said : all_named s texts ≡ all_named s seen ++ ts
    read : many (new_text s) (length ts) seen at ≡ good texts (at + length (write_texts ts))

  texts_back : (at : ℕ) (seen : List Text) (ts : List Named) (l : List ℕ) → Stands s at (write_texts ts) l → AllTexts ts → Fresh (words seen) ts → Differ ts
      → AllBack at seen ts
  unfolding write_texts many
  texts_back at seen [] l g h f d =
      let e : at ≡ at + 0 = omega arith in
      record { texts = seen; said = sym (append-nil (all_named s seen)); read = ap (good seen) e }
  texts_back at seen (t ∷ ts) l g h f d =
      let b = text_back (words seen) at t (write_texts ts ++ l) (stands_left s at (write_text t) (write_texts ts) l g) h.0 f.0 in
      let e = b.entry in
      let n : e.word.text ≡ t.name = ap (λ (x : Named). x.name) b.said in
      let o : Others e.word.text ts = rw n d.0 in
      let f₁ : Fresh (words (seen ++ (e ∷ []))) ts = rw (words_snoc seen e) (fresh_more (words seen) e.word ts f.1 o) in
      let behind = at + length (write_text t) in
      let r = texts_back behind (seen ++ (e ∷ [])) ts l (stands_right s at (write_text t) (write_texts ts) l g) h.1 f₁ d.1 in
      let z : behind + length (write_texts ts) ≡ at + length (write_text t ++ write_texts ts) = omega (arith, length-append (write_text t) (write_texts ts)) in
      record {
        texts = r.texts;
        said = r.said ∙ ap (λ (x : List Named). x ++ ts) (map-append (named s) seen (e ∷ []) ∙ ap (λ (x : Named). all_named s seen ++ (x ∷ [])) b.said)
            ∙ append_assoc (all_named s seen) (t ∷ []) ts;
        read = rw b.read (r.read ∙ ap (good r.texts) z);
      }

pub record ReadBack (ts : List Named) : Type 0 where
  pub texts : List Text
  pub read : bundle_at (write_bundle ts) ≡ good texts (length (write_bundle ts))
  pub said : all_named (write_bundle ts) texts ≡ ts

-- reading what was written gives the texts back
pub bundle_back : (ts : List Named) → BundleTexts ts → ReadBack ts
unfolding write_bundle bundle_at texts_at
bundle_back ts h =
    let s = write_bundle ts in
    let k = write_number (length ts) in
    let g : Stands s 0 (k ++ write_texts ts) [] = record { inside = omega arith; bytes = sym (append-nil s) } in
    let c = number_stands s 0 (length ts) (write_texts ts ++ []) (omega (arith, h.few)) (stands_left s 0 k (write_texts ts) [] g) in
    let r = texts_back s (0 + length k) [] ts [] (stands_right s 0 k (write_texts ts) [] g) h.each (fresh_nil ts) h.differ in
    let e : 0 + length k + length (write_texts ts) ≡ length s = omega (arith, length-append k (write_texts ts)) in
    record {
      texts = r.texts;
      read = rw (le-ltb most_bytes (length s) h.short, c, le-ltb most_texts (length ts) h.few, r.read, e, le-ltb (length s) (length s) (omega arith));
      said = r.said;
    }

-- ---- what was read is what is written

module _ (s : List ℕ) where
  module _ (bytes : AllBytes s) where
    record Said (at : ℕ) (e : Text) (n : ℕ) : Type 0 where
      inside : n ≤ length s
      wrote : Wrote s at (write_text (named s e)) n
      fine : TextBytes (named s e)

    text_written : (ws : List PlacedName) (at : ℕ) {e : Text} {n : ℕ} → filed_at s ws at ≡ good e n → Said at e n
    unfolding write_text
    text_written ws at {e} {n} h =
        let o = parted s ws at h in
        let l = number_end s o.behind o.size in
        let r = o.room in
        let i : n - e.from ≡ e.size = omega (arith, o.end) in
        let z : length (take e.size (drop e.from s)) ≡ e.size = length-take-le e.size (drop e.from s) (rw length-drop r) in
        let number : Wrote s o.behind (write_number (length (take e.size (drop e.from s)))) e.from = rw z
        (number_wrote s bytes o.behind o.size) in
        let body : Wrote s e.from (take e.size (drop e.from s)) n = record
        { later = omega (arith, o.end); bytes = ap (λ (x : ℕ). take x (drop e.from s)) i } in
        record {
          inside = omega (arith, r, l.1, o.end);
          wrote = wrote_join s at o.behind n (name_wrote s bytes at o.name) (wrote_join s o.behind e.from n number body);
          fine = record { name = name_bytes s at o.name; few = rw z (number_most s bytes o.behind o.size) };
        }

    record AllSaid (at k : ℕ) (seen es : List Text) (n : ℕ) : Type 0 where
      new : List Text
      all : es ≡ seen ++ new
      count : length new ≡ k
      inside : n ≤ length s
      wrote : Wrote s at (write_texts (all_named s new)) n
      fine : AllTexts (all_named s new)
      fresh : Fresh (words seen) (all_named s new)
      differ : Differ (all_named s new)

    texts_written : (k at : ℕ) (seen : List Text) {es : List Text} {n : ℕ} → at ≤ length s → many (new_text s) k seen at ≡ good es n → AllSaid at k seen es n
    unfolding many write_texts
    texts_written zero at seen {es} {n} i h =
        let p : seen ≡ es = cc in
        let q : at ≡ n = cc in
        record {
          new = [];
          all = sym p ∙ sym (append-nil seen);
          count = refl;
          inside = omega (arith, q, i);
          wrote = rw (← q) (wrote_none s at);
          fine = tt;
          fresh = tt;
          differ = tt;
        }
    texts_written (suc k) at seen {es} {n} i h = go (filed_at s (words seen) at) refl (λ e m j. texts_written k m (seen ++ (e ∷ [])) j) h
      where
        go : (a : Ans Text) → filed_at s (words seen) at ≡ a
            → ((e : Text) (m : ℕ) → m ≤ length s → many (new_text s) k (seen ++ (e ∷ [])) m ≡ good es n → AllSaid m k (seen ++ (e ∷ [])) es n)
            → bind a (λ e m. many (new_text s) k (seen ++ (e ∷ [])) m) ≡ good es n → AllSaid at (suc k) seen es n
        go (good e m) p ih q =
            let t = text_written (words seen) at p in
            let r = ih e m t.inside q in
            let x = fresh_less (words seen) e.word (all_named s r.new) (rw (words_snoc seen e) at r.fresh) in
            record {
              new = e ∷ r.new;
              all = r.all ∙ append_assoc seen (e ∷ []) r.new;
              count = ap suc r.count;
              inside = r.inside;
              wrote = wrote_join s at m n t.wrote r.wrote;
              fine = (t.fine, r.fine);
              fresh = ((parted s (words seen) at p).new, x.0);
              differ = (x.1, r.differ);
            }
        go (bad y) p ih q = let z : ◌≡◌ {A = ℕ} 0 1 = cc in absurd (omega arith)

    -- a bundle that is accepted is what would be written of its texts, which make one
    pub record Accepted (es : List Text) (n : ℕ) : Type 0 where
      pub end : n ≡ length s
      pub said : s ≡ write_bundle (all_named s es)
      pub fine : BundleTexts (all_named s es)

    pub bundle_written : {es : List Text} {n : ℕ} → bundle_at s ≡ good es n → Accepted es n
    unfolding write_bundle
    bundle_written {es} {n} h =
        let o = bundle_parted s h in
        let r = texts_written o.count o.first [] (number_end s 0 o.number).1 o.texts in
        let a = r.all in
        let e = o.end in
        let k : o.count ≡ length (all_named s r.new) = sym r.count ∙ sym (length-map r.new (named s)) in
        let c : Wrote s 0 (write_number (length (all_named s r.new))) o.first = rw (← k) (number_wrote s bytes 0 o.number) in
        let w : s ≡ write_bundle (all_named s r.new) =
        sym (take_all (n - 0) s (omega (arith, r.inside, e))) ∙ (wrote_join s 0 o.first n c r.wrote).bytes in
        record {
          end = omega (arith, r.inside, e);
          said = rw a w;
          fine = rw a (record { few = omega (arith, k, o.few); each = r.fine; differ = r.differ; short = omega (arith, ap length w, o.short) });
        }
