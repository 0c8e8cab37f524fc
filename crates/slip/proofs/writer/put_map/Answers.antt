use Rattle.std.proofs.Common.{◌≡◌, ◌+◌, [], ◌∷◌, ◌++◌, map, get_or, take, sym, ap, ◌∙◌, arith}
use Rattle.std.proofs.lemmas.List.{take_more, map-append}
use Rattle.std.proofs.lemmas.Grind.{common_steps}
use Rattle.slip.specs.Format.{map_byte}
use Rattle.line.proofs.Written.{handed, wrote_none, wrote_more}
use Rattle.slip.proofs.writer.put_map.Goals as goal

pub loop-eight-init : goal.loop-eight-init
loop-eight-init c = wrote_none c.args.pen.now (omega (arith, c.requires.room))

pub loop-eight-preserved : goal.loop-eight-preserved
loop-eight-preserved c =
    let eights = c.as_chunks.result.0.now in
    let i = c.loop-eight.eight-index in
    let own : map (map_byte 128) (take (i + 1) eights) ≡ map (map_byte 128) (take i eights) ++ (c.map_byte.result ∷ []) =
    ap (map (map_byte 128)) (take_more eights i [] c.loop-eight-test.true) ∙ map-append (map_byte 128) (take i eights) (get_or eights i [] ∷ []) ∙ ap (λ b. map (map_byte 128) (take i eights) ++ (b ∷ [])) (sym c.map_byte.ensures) in
    rw own (wrote_more c.loop-eight.invariant (handed (grind (arith, common_steps)) c.put.ensures))
