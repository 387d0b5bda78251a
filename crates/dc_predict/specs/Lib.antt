pub mod DcPrediction
