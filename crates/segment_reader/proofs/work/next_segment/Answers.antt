use Rattle.outside.specs.Views.{source_view}
use Rattle.segment_reader.proofs.WorkLaws.{some_of, none_of, has_len, len_fits, gives_some, gives_none, few_pend, kept_behind}
use Rattle.segment_reader.proofs.work.next_segment.Goals as goal

pub overflow_sub-work : goal.overflow_sub-work
overflow_sub-work g c =
    let seen = source_view g.S.Source in
    let found = c.in_ok-found.found in
    let is = has_len found.segment c.len_of.result c.len_of.ensures.none c.len_of.ensures.some in
    len_fits c.work.inside c.args.work.now c.work.view_is c.work.invariant c.requires c.read_segment.new.stream found c.len_of.result (seen c.args.source.now) (seen c.read_segment.new.source) c.in_ok-found.ensures.numbers c.in_ok-found.ensures.found is

pub invariant_of-work-2 : goal.invariant_of-work-2
invariant_of-work-2 g c =
    let seen = source_view g.S.Source in
    let found = c.in_ok-found.found in
    let is = has_len found.segment c.len_of.result c.len_of.ensures.none c.len_of.ensures.some in
    kept_behind c.work.inside c.args.work.now c.work.view_is c.work.invariant c.requires c.read_segment.new.stream found c.len_of.result (seen c.args.source.now) (seen c.read_segment.new.source) c.in_ok-found.ensures.numbers c.in_ok-found.ensures.found is
    c.in_ok-found.ensures.in_step c.in_ok-found.ensures.few

pub returns-clause-some : goal.returns-clause-some
returns-clause-some g c =
    let seen = source_view g.S.Source in
    let found = c.in_ok-found.found in
    let is = has_len found.segment c.len_of.result c.len_of.ensures.none c.len_of.ensures.some in
    some_of found.segment
    (gives_some c.work.inside c.args.work.now c.work.view_is c.work.invariant c.requires c.read_segment.new.stream found c.len_of.result (seen c.args.source.now) (seen c.read_segment.new.source) c.in_ok-found.ensures.numbers c.in_ok-found.ensures.found is
    c.if-work.false)

pub returns-clause-none : goal.returns-clause-none
returns-clause-none g c =
    let seen = source_view g.S.Source in
    let found = c.in_ok-found.found in
    let is = has_len found.segment c.len_of.result c.len_of.ensures.none c.len_of.ensures.some in
    none_of found.segment
    (gives_none c.work.inside c.args.work.now c.work.view_is c.work.invariant c.requires c.read_segment.new.stream found c.len_of.result (seen c.args.source.now) (seen c.read_segment.new.source) c.in_ok-found.ensures.numbers c.in_ok-found.ensures.found is
    c.if-work.false)

pub returns-clause-few : goal.returns-clause-few
returns-clause-few g c =
    let seen = source_view g.S.Source in
    let found = c.in_ok-found.found in
    let is = has_len found.segment c.len_of.result c.len_of.ensures.none c.len_of.ensures.some in
    few_pend c.work.inside c.args.work.now c.work.view_is c.work.invariant c.requires c.read_segment.new.stream found c.len_of.result (seen c.args.source.now) (seen c.read_segment.new.source) c.in_ok-found.ensures.numbers c.in_ok-found.ensures.found is
    c.in_ok-found.ensures.few
