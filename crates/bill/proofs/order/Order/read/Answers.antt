use Rattle.std.proofs.Common.{◌≡◌, ◌≤◌, map, length, string_bytes, sym, ap, ◌∙◌, refl, arith, length-drop, w16, SFits, to_z, of_z, rules}
use borrow.Author.Tests.{eqb-false}
use Rattle.std.proofs.lemmas.List.{length-map, take_rest, drop-map}
use mathlib.Core.List.{map-map}
use Rattle.std.proofs.lemmas.Int.{to_z-of_z}
use Rattle.program.proofs.Words.{word_at}
use Rattle.bill.specs.Orders.{all_counted}
use Rattle.bill.specs.Words.{counted}
use Rattle.bill.proofs.Reading.{counted-read, fuel-read}
use Rattle.bill.proofs.order.Order.read.Goals as goal

pub returns : goal.returns
returns c =
    let words = c.args.words.now in
    let rest = take_rest words 9 in
    let tariff = c.in_ok-read.ensures in
    let capacity = c.in_ok-read-2.ensures in
    let percent = c.in_ok-read-3.ensures in
    let fuel = c.in_ok-read-4.ensures in
    let levy = c.in_ok-read-5.ensures in
    let buy = c.in_ok-read-6.ensures in
    let surplus = c.in_ok-read-7.ensures in
    let used = c.in_ok-all_hundredths.ensures in
    let price-fits : SFits w16 c.in_ok-read-4.field-0 = search rules in
    let price_kept : to_z w16 (of_z w16 c.in_ok-read-4.field-0) ≡ c.in_ok-read-4.field-0 = to_z-of_z w16 _ price-fits in
    let rest-length = ap length rest ∙ length-drop 9 words in
    let not-empty = eqb-false _ _ (sym c.if-is_empty.ensures) in
    let long : 10 ≤ length words = omega (arith, not-empty, rest-length) in
    let same_length = length-map words string_bytes in
    record {
      tariff_is = counted-read 8 255 refl tariff (c.as_str.ensures.value ∙ word_at words 1 c.tariff-item.result (omega arith) c.tariff-item.is);
      capacity_is = counted-read 8 255 refl capacity (c.as_str-2.ensures.value ∙ word_at words 2 c.capacity-item.result (omega arith) c.capacity-item.is);
      percent_is = counted-read 8 255 refl percent (c.as_str-3.ensures.value ∙ word_at words 3 c.percent-item.result (omega arith) c.percent-item.is);
      letter_is = c.as_str-4.ensures.value ∙ word_at words 4 c.letter-item.result (omega arith) c.letter-item.is;
      fuel_is = price_kept ∙ fuel-read fuel (c.as_str-5.ensures.value ∙ word_at words 5 c.fuel-item.result (omega arith) c.fuel-item.is);
      levy_is = counted-read 16 65535 refl levy (c.as_str-6.ensures.value ∙ word_at words 6 c.levy-item.result (omega arith) c.levy-item.is);
      buy_is = counted-read 16 65535 refl buy (c.as_str-7.ensures.value ∙ word_at words 7 c.buy-item.result (omega arith) c.buy-item.is);
      surplus_is = counted-read 32 4294967295 refl surplus (c.as_str-8.ensures.value ∙ word_at words 8 c.surplus-item.result (omega arith) c.surplus-item.is);
      used_is = used ∙ sym (map-map (counted 4294967295) string_bytes _) ∙ ap (all_counted 4294967295) (ap (map string_bytes) rest ∙ sym (drop-map string_bytes 9 words));
      some_used = omega (arith, long, same_length);
      few_used = omega (arith, same_length, rest-length, c.if-used-gt4.false);
    }
