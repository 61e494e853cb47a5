pub mod AcceptedPlace
