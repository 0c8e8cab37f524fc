use Rattle.std.proofs.Common.{◌≡◌, ◌+◌, ◌≤◌, length, ap, ◌∙◌, refl, arith}
use Rattle.line.proofs.Written.{part_written, written_size}
use Rattle.line.proofs.pen.Pen.put.Goals as goal

pub returns-then-end-self : goal.returns-then-end-self
returns-then-end-self c =
    let pen = c.args.self.now in
    let text = c.args.text.now in
    let behind : c.saturating_add-end.result ≡ pen.at + length text = omega arith in
    let room : pen.at + length text ≤ length pen.out.now = omega arith in
    let is = part_written pen.out.now text c.copy_from_slice.new.self pen.at _ behind c.copy_from_slice.ensures.after in
    record {
      same_buffer = refl;
      size = ap length is ∙ written_size pen.out.now pen.at text room;
      place = λ _. behind;
      bytes = λ _. is;
      full = λ over. absurd (omega arith);
    }
