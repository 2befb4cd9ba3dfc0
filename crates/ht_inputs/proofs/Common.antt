-- The names that most proofs of this crate use.
pub use Rattle.ht_asked.specs.Asked.{Asked}
pub use Rattle.ht_bench.proofs.OneLaws.{one_circuit}
pub use Rattle.ht_bench.specs.Text.{IsNetlistOf, max_netlist_bytes}
pub use Rattle.ht_faults.specs.Classes.{AreClasses}
pub use Rattle.ht_serial.specs.ObservationView.{ObservationView}
pub use Rattle.ht_dictionary.specs.ResponseTexts.{IsMalformedResponse, row_text}
pub use Rattle.ht_entries.specs.ProofLines.{line_text}
pub use Rattle.ht_entries.specs.declared.numbered.Numbered.{Numbered}
pub use Rattle.ht_proofs.specs.Detections.{AreFirstDetections}
pub use Rattle.ht_inputs.specs.Errors.{exit_status, judged_error_of}
pub use Rattle.ht_inputs.specs.Inputs.{AcceptsInputs, HasNetlist, IsGoodNetlist, IsInput, JobBasis, MayBeHeld, SaysBasis}
pub use Rattle.ht_inputs.specs.Inputs.{WasRead}
pub use Rattle.ht_inputs.specs.Jobs.{input_name, order_of}
pub use Rattle.ht_inputs.specs.Judging.{AreFine, HasFront, HasTextLines, HasLongLine, LinesStop, ReportIsRead}
pub use Rattle.ht_inputs.specs.Judging.{StandsForFile, StandsForProofs, StandsForReport, StandsForResponses}
pub use Rattle.ht_inputs.specs.Judging.{StandsForTests, StopsAtLine, check_basis}
pub use Rattle.ht_inputs.specs.Reading.{EndsReading, HasReadTo, ReadStops, StopsReading, TestsStop}
pub use Rattle.ht_inputs.specs.Refusals.{IsRefusedFor, RefusesFile, before_proofs, refused_port}
pub use Rattle.ht_inputs.specs.declared.run_error.RunError.{RunError}
pub use Rattle.ht_inputs.specs.declared.run_error.RunError.TheVariants.{BadResponses, BadTests, Denied, ReadFault}
pub use Rattle.ht_inputs.specs.declared.run_error.RunError.TheVariants.{TooManyVectors, Usage, WriteFault}
pub use Rattle.ht_judge.specs.declared.judge_error.JudgeError.{JudgeError}
pub use Rattle.ht_net.specs.Detect.Detection.{unknown_state}
pub use Rattle.ht_net.specs.Frames.Rows.{Rows}
pub use Rattle.ht_ports.proofs.CallLaws.{after_trans}
pub use Rattle.ht_ports.specs.Desk.{DeskView, InCall}
pub use Rattle.ht_ports.specs.LineRule.{IsTooLongLine, lines_of, max_text_bytes, without_cr}
pub use Rattle.ht_ports.specs.Lines.{rest_of}
pub use Rattle.ht_ports.specs.declared.ports.InPort.{InPort}
pub use Rattle.ht_ports.specs.declared.ports.InPort.TheVariants.{Extra}
pub use Rattle.ht_tern.specs.declared.tern.Tern.{Tern}
pub use Rattle.ht_texts.proofs.LinesSoFarLaws.{LinesSoFar}
pub use Rattle.ht_texts.specs.Tests.{IsMalformedTest, IsTestText, IsTooLong, vector_text}
pub use Rattle.ht_texts.specs.WrongLines.{IsFirst}
pub use Rattle.ht_texts.specs.declared.said.Said.{Said}
pub use Rattle.ht_valid.specs.ValidFiles.{Content}
pub use Rattle.ht_valid.specs.declared.trouble.Trouble.{Trouble}
